use Rattle.std.proofs.Common.{ap, ◌∙◌}
use Rattle.std.proofs.lemmas.Result.{err_from_is_err_and}
use Rattle.module_arena.specs.Lists.{Lists}
use Rattle.module_arena.specs.Module.{Module}
use Rattle.record_table.specs.Faults.{records}
use Rattle.record_table.specs.Records.{read}
use Rattle.record_read.specs.Reader.{Reader}
use Rattle.record_read.proofs.OnOpening.Answering.{out_of_memory}
use Rattle.bitcode_read.specs.Answers.{IsModule}
use Rattle.bitcode_read.proofs.Judged.{before_block, block_begun, block_refused, block_settable, stream_read}
use Rattle.bitcode_read.proofs.reading.read_opened.Goals as goal

pub read_module-requires-clause-unspent : goal.read_module-requires-clause-unspent
read_module-requires-clause-unspent c = ap (λ (r : Reader). r.spent) c.in_ok-m.ensures.reader_is ∙ c.requires.unspent

pub read_module-requires-clause-begun : goal.read_module-requires-clause-begun
read_module-requires-clause-begun c =
    let w = c.requires.opened in
    block_begun c.args.bytes.now w.tree w.is_tree c.args.texts.now c.args.reader c.args.known.now w.opened c.in_ok-m.m c.in_ok-m.ensures

pub read_end-requires-clause-unspent : goal.read_end-requires-clause-unspent
read_end-requires-clause-unspent c = c.in_ok-sofar.ensures.unspent

pub read_end-requires-clause-settable : goal.read_end-requires-clause-settable
read_end-requires-clause-settable c =
    let w = c.requires.opened in
    let before = before_block c.args.bytes.now w.tree w.is_tree c.args.texts.now c.args.reader c.args.known.now w.opened c.in_ok-m.m c.in_ok-m.ensures in
    block_settable c.args.bytes.now w.tree w.is_tree c.args.texts.now c.args.reader c.args.known.now w.opened c.in_ok-m.m c.in_ok-m.ensures c.read_module.new.m c.in_ok-sofar.sofar (c.in_ok-sofar.ensures.answers w.tree w.opened.others w.is_tree before)

pub returns-in_err-m : goal.returns-in_err-m
returns-in_err-m c = λ tree stream o.
    let p = err_from_is_err_and c.from_residual.result c.from_residual.ensures.1 in
    rw p.1 (out_of_memory {A = Module} {B = Lists} IsModule (read (records tree)) p.0 p.2)

pub returns-in_err-sofar : goal.returns-in_err-sofar
returns-in_err-sofar c = λ tree stream o.
    let p = err_from_is_err_and c.from_residual-in_err-sofar.result c.from_residual-in_err-sofar.ensures.1 in
    let before = before_block c.args.bytes.now tree stream c.args.texts.now c.args.reader c.args.known.now o c.in_ok-m.m c.in_ok-m.ensures in
    rw (p.1, p.2) (block_refused c.args.bytes.now tree stream c.args.texts.now c.args.reader c.args.known.now o c.in_ok-m.m c.in_ok-m.ensures c.read_module.new.m _ (c.in_err-sofar.ensures.answers tree o.others stream before))

pub returns : goal.returns
returns c = λ tree stream o.
    let before = before_block c.args.bytes.now tree stream c.args.texts.now c.args.reader c.args.known.now o c.in_ok-m.m c.in_ok-m.ensures in
    stream_read c.args.bytes.now tree stream c.args.texts.now c.args.reader c.args.known.now o c.in_ok-m.m c.in_ok-m.ensures c.read_module.new.m c.in_ok-sofar.sofar (c.in_ok-sofar.ensures.answers tree o.others stream before) c.read_end.result c.read_end.ensures

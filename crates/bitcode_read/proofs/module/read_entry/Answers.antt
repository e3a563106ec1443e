use Rattle.std.proofs.Common.{true, false, refl, sym, ◌∙◌, arith}
use Rattle.std.specs.Prelude.{Ok}
use Rattle.std.proofs.lemmas.Result.{err_from_is_err_and}
use Rattle.record_table.specs.Faults.{records}
use Rattle.record_read.specs.declared.entry.NextEntry.TheVariants.{Block, Record, End}
use Rattle.record_read.specs.Fields.{texts_of}
use Rattle.bitcode_read.specs.Head.Ahead.{first_module}
use Rattle.record_read.proofs.OnOpening.Answering.{gone, out_of_memory}
use Rattle.bitcode_read.proofs.Loop.{block_goes, block_nearer, end_goes, end_is_last, in_block, may_be_types, never_both, ok_first, ok_second, on_more, record_given_at, record_goes, record_nearer}
use Rattle.bitcode_read.proofs.module.read_entry.Goals as goal

pub read_record-requires-clause-given : goal.read_record-requires-clause-given
read_record-requires-clause-given c =
    let next = gone c.args.m.now.reader c.next.new.self c.in_ok-code.field-0 (Record c.in-Record.code) c.in_ok-code.ensures c.in-Record.is in
    let w = c.requires.going in
    let at = record_given_at (texts_of c.args.texts.now) (first_module (records w.tree)) w.others w.first c.args.m.now c.args.sofar.now c.args.known.now w.going c.next.new.self c.in-Record.code next.2 in
    omega (arith, at)

pub read_block-requires-clause-unspent : goal.read_block-requires-clause-unspent
read_block-requires-clause-unspent c =
    let next = gone c.args.m.now.reader c.next.new.self c.in_ok-code.field-0 (Block c.in-Block.id) c.in_ok-code.ensures c.in-Block.is in
    next.0

pub read_block-requires-clause-begun : goal.read_block-requires-clause-begun
read_block-requires-clause-begun c =
    let next = gone c.args.m.now.reader c.next.new.self c.in_ok-code.field-0 (Block c.in-Block.id) c.in_ok-code.ensures c.in-Block.is in
    let w = c.requires.going in
    in_block (texts_of c.args.texts.now) (first_module (records w.tree)) w.others w.first c.args.m.now c.args.sofar.now c.args.known.now w.going c.next.new.self c.in-Block.id next.2

pub read_block-requires-clause-types : goal.read_block-requires-clause-types
read_block-requires-clause-types c =
    let next = gone c.args.m.now.reader c.next.new.self c.in_ok-code.field-0 (Block c.in-Block.id) c.in_ok-code.ensures c.in-Block.is in
    let w = c.requires.going in
    may_be_types (texts_of c.args.texts.now) (first_module (records w.tree)) w.others w.first c.args.m.now c.args.sofar.now c.args.known.now w.going c.next.new.self c.in-Block.id next.2

pub read_block-requires-clause-judged : goal.read_block-requires-clause-judged
read_block-requires-clause-judged c = let w = c.requires.going in record { tree = w.tree; stream = w.is_tree }

pub returns-in-Record-clause-room : goal.returns-in-Record-clause-room
returns-in-Record-clause-room c = rw c.more.ensures (on_more _ c.read_record.result c.read_record.ensures.room)

pub returns-in-Record-clause-unspent : goal.returns-in-Record-clause-unspent
returns-in-Record-clause-unspent c =
    let next = gone c.args.m.now.reader c.next.new.self c.in_ok-code.field-0 (Record c.in-Record.code) c.in_ok-code.ensures c.in-Record.is in
    let w = c.requires.going in
    rw c.more.ensures
    (ok_first _ _ c.read_record.result (record_nearer (texts_of c.args.texts.now) (first_module (records w.tree)) w.others w.first c.args.m.now c.args.sofar.now c.args.known.now w.going c.next.new.self c.read_record.new.m c.read_record.new.sofar c.in-Record.code next.2
    next.1 next.0 c.read_record.result c.read_record.ensures.reads))

pub returns-in-Record-clause-nearer : goal.returns-in-Record-clause-nearer
returns-in-Record-clause-nearer c = λ is.
    let next = gone c.args.m.now.reader c.next.new.self c.in_ok-code.field-0 (Record c.in-Record.code) c.in_ok-code.ensures c.in-Record.is in
    let w = c.requires.going in
    ok_second _ _ c.read_record.result (record_nearer (texts_of c.args.texts.now) (first_module (records w.tree)) w.others w.first c.args.m.now c.args.sofar.now c.args.known.now w.going c.next.new.self c.read_record.new.m c.read_record.new.sofar c.in-Record.code next.2
    next.1 next.0 c.read_record.result c.read_record.ensures.reads) (sym c.more.ensures ∙ is)

pub returns-in-Record-clause-goes : goal.returns-in-Record-clause-goes
returns-in-Record-clause-goes c = λ tree others first stream g.
    let next = gone c.args.m.now.reader c.next.new.self c.in_ok-code.field-0 (Record c.in-Record.code) c.in_ok-code.ensures c.in-Record.is in
    rw c.more.ensures
    (record_goes (texts_of c.args.texts.now) (first_module (records tree)) others first c.args.m.now c.args.sofar.now c.args.known.now g c.next.new.self c.read_record.new.m c.read_record.new.sofar c.in-Record.code next.2 c.read_record.result c.read_record.ensures.reads)

pub returns-in-Block-clause-room : goal.returns-in-Block-clause-room
returns-in-Block-clause-room c = rw c.more-in-Block.ensures (on_more _ c.read_block.result c.read_block.ensures.room)

pub returns-in-Block-clause-unspent : goal.returns-in-Block-clause-unspent
returns-in-Block-clause-unspent c =
    let next = gone c.args.m.now.reader c.next.new.self c.in_ok-code.field-0 (Block c.in-Block.id) c.in_ok-code.ensures c.in-Block.is in
    let w = c.requires.going in
    rw c.more-in-Block.ensures
    (ok_first _ _ c.read_block.result (block_nearer (texts_of c.args.texts.now) (first_module (records w.tree)) w.others w.first c.args.m.now c.args.sofar.now c.args.known.now w.going c.next.new.self c.read_block.new.m c.read_block.new.sofar c.read_block.new.known
    c.in-Block.id next.2 next.1 c.read_block.result (c.read_block.ensures.reads w.tree w.is_tree)))

pub returns-in-Block-clause-nearer : goal.returns-in-Block-clause-nearer
returns-in-Block-clause-nearer c = λ is.
    let next = gone c.args.m.now.reader c.next.new.self c.in_ok-code.field-0 (Block c.in-Block.id) c.in_ok-code.ensures c.in-Block.is in
    let w = c.requires.going in
    ok_second _ _ c.read_block.result (block_nearer (texts_of c.args.texts.now) (first_module (records w.tree)) w.others w.first c.args.m.now c.args.sofar.now c.args.known.now w.going c.next.new.self c.read_block.new.m c.read_block.new.sofar c.read_block.new.known
    c.in-Block.id next.2 next.1 c.read_block.result (c.read_block.ensures.reads w.tree w.is_tree)) (sym c.more-in-Block.ensures ∙ is)

pub returns-in-Block-clause-goes : goal.returns-in-Block-clause-goes
returns-in-Block-clause-goes c = λ tree others first stream g.
    let next = gone c.args.m.now.reader c.next.new.self c.in_ok-code.field-0 (Block c.in-Block.id) c.in_ok-code.ensures c.in-Block.is in
    rw c.more-in-Block.ensures
    (block_goes (texts_of c.args.texts.now) (first_module (records tree)) others first c.args.m.now c.args.sofar.now c.args.known.now g c.next.new.self c.read_block.new.m c.read_block.new.sofar c.read_block.new.known c.in-Block.id next.2 c.read_block.result
    (c.read_block.ensures.reads tree stream))

pub returns-in-End-clause-unspent : goal.returns-in-End-clause-unspent
returns-in-End-clause-unspent c =
    let next = gone c.args.m.now.reader c.next.new.self c.in_ok-code.field-0 End c.in_ok-code.ensures c.in-End.is in
    next.0

pub returns-in-End-clause-nearer : goal.returns-in-End-clause-nearer
returns-in-End-clause-nearer c = λ is. end_is_last (Ok false) refl is

pub returns-in-End-clause-goes : goal.returns-in-End-clause-goes
returns-in-End-clause-goes c = λ tree others first stream g.
    let next = gone c.args.m.now.reader c.next.new.self c.in_ok-code.field-0 End c.in_ok-code.ensures c.in-End.is in
    end_goes (texts_of c.args.texts.now) (first_module (records tree)) others first c.args.m.now c.args.sofar.now c.args.known.now g c.next.new.self next.2

pub returns-in_err-code-clause-nearer : goal.returns-in_err-code-clause-nearer
returns-in_err-code-clause-nearer c = λ is.
    let p = err_from_is_err_and c.from_residual.result c.from_residual.ensures.1 in
    absurd (never_both c.from_residual.result p.0 true p.1 is)

pub returns-in_err-code-clause-goes : goal.returns-in_err-code-clause-goes
returns-in_err-code-clause-goes c = λ tree others first stream g.
    let p = err_from_is_err_and c.from_residual.result c.from_residual.ensures.1 in
    rw p.1 (out_of_memory _ _ p.0 p.2)

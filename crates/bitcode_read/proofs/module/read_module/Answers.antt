use Rattle.std.proofs.Common.{sym, ap, ◌∙◌, subst, length, arith}
use Rattle.std.proofs.lemmas.Result.{err_from_is_err_and}
use Rattle.bit_tree.specs.Stream.{StreamTree}
use Rattle.bit_tree.proofs.OneTree.{one_tree}
use Rattle.record_table.specs.Faults.{records}
use Rattle.record_read.specs.Fields.{texts_of}
use Rattle.bitcode_read.specs.Head.Ahead.{IsAhead, first_module}
use Rattle.bitcode_read.specs.Sofar.{numbers_from}
use Rattle.bitcode_read.proofs.Loop.{goes_begin, goes_refused, when_ok}
use Rattle.bitcode_read.proofs.module.read_module.Goals as goal

pub read_entries-requires-clause-room : goal.read_entries-requires-clause-room
read_entries-requires-clause-room c = record {
  variables = let none = ap (λ xs. length xs) c.new-sofar.ensures.entries.0 in omega (arith, none);
  functions = let none = ap (λ xs. length xs) c.new-sofar.ensures.entries.1 in omega (arith, none);
  aliases = let none = ap (λ xs. length xs) c.new-sofar.ensures.entries.2 in omega (arith, none);
  numbers = c.new-sofar.ensures.numbers ∙ sym (ap (λ ds. numbers_from 0 ds) c.new-sofar.ensures.entries.1);
}

pub read_entries-requires-clause-going : goal.read_entries-requires-clause-going
read_entries-requires-clause-going c =
    let w = c.requires.begun in
    let new = c.new-sofar.ensures in
    let begin = goes_begin (texts_of c.args.texts.now) (first_module (records w.tree)) w.others c.args.m.now c.new-sofar.result c.args.known.now w.before w.is_known w.over new.last new.texts new.entries new.bodies in
    record { tree = w.tree; is_tree = w.is_tree; others = w.others; first = c.args.m.now.reader.at; going = begin }

pub returns-clause-unspent : goal.returns-clause-unspent
returns-clause-unspent c = when_ok c.whole.result c.in_ok-read_entries.ensures.unspent

pub returns-clause-answers : goal.returns-clause-answers
returns-clause-answers c = λ tree others stream before.
    let w = c.requires.begun in
    let new = c.new-sofar.ensures in
    let known : IsAhead (texts_of c.args.texts.now) (first_module (records tree)) c.args.known.now = subst (λ (t : StreamTree). IsAhead (texts_of c.args.texts.now) (first_module (records t)) c.args.known.now) (one_tree c.args.bytes.now w.tree tree w.is_tree stream) w.is_known in
    let begin = goes_begin (texts_of c.args.texts.now) (first_module (records tree)) others c.args.m.now c.new-sofar.result c.args.known.now before known w.over new.last new.texts new.entries new.bodies in
    c.whole.ensures (first_module (records tree)) others c.args.m.now.reader.at c.read_entries.new.known (c.in_ok-read_entries.ensures.goes tree others c.args.m.now.reader.at stream begin)

pub returns-in_err-read_entries-clause-answers : goal.returns-in_err-read_entries-clause-answers
returns-in_err-read_entries-clause-answers c = λ tree others stream before.
    let p = err_from_is_err_and c.from_residual.result c.from_residual.ensures.1 in
    let w = c.requires.begun in
    let new = c.new-sofar.ensures in
    let known : IsAhead (texts_of c.args.texts.now) (first_module (records tree)) c.args.known.now = subst (λ (t : StreamTree). IsAhead (texts_of c.args.texts.now) (first_module (records t)) c.args.known.now) (one_tree c.args.bytes.now w.tree tree w.is_tree stream) w.is_known in
    let begin = goes_begin (texts_of c.args.texts.now) (first_module (records tree)) others c.args.m.now c.new-sofar.result c.args.known.now before known w.over new.last new.texts new.entries new.bodies in
    rw (p.1, p.2)
    (goes_refused (texts_of c.args.texts.now) (first_module (records tree)) others c.args.m.now.reader.at c.read_entries.new.m c.read_entries.new.sofar c.read_entries.new.known _ _
    (c.in_err-read_entries.ensures.goes tree others c.args.m.now.reader.at stream begin))

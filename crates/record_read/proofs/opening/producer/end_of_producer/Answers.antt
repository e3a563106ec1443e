use Rattle.std.proofs.Common.{◌∷◌, ap, subst, ◌∙◌, suc}
use Rattle.std.proofs.lemmas.Result.{err_from_is_err_and}
use Rattle.bit_tree.specs.Pieces.{ended}
use Rattle.record_read.specs.declared.entry.NextEntry.TheVariants.{Block, Record, End}
use Rattle.record_read.specs.Faults.{IsMisplaced}
use Rattle.record_read.proofs.OnOpening.Answering.{gone, out_of_memory}
use Rattle.record_read.proofs.OnOpening.Fronts.{block_refused, ends, more_done, more_refused, record_at}
use Rattle.record_read.proofs.opening.producer.end_of_producer.Goals as goal

pub refuse_more-requires : goal.refuse_more-requires
refuse_more-requires c =
    let next = gone c.args.reader.now c.next.new.self c.in_ok-code.field-0 (Record c.in-Record.code) c.in_ok-code.ensures c.in-Record.is in
    let b = c.requires.begun in
    record_at b.inside (ended ∷ b.others) c.args.reader.now c.next.new.self c.in-Record.code (next.2 b.inside (ended ∷ b.others) b.before) ∙ ap suc c.requires.one

pub returns-in-Record-clause-unspent : goal.returns-in-Record-clause-unspent
returns-in-Record-clause-unspent c =
    let next = gone c.args.reader.now c.next.new.self c.in_ok-code.field-0 (Record c.in-Record.code) c.in_ok-code.ensures c.in-Record.is in
    let b = c.requires.begun in
    more_done _ b.inside (ended ∷ b.others) c.args.reader.now c.next.new.self c.in-Record.code c.refuse_more.result (next.2 b.inside (ended ∷ b.others) b.before) c.refuse_more.ensures

pub returns-in-Record-clause-answers : goal.returns-in-Record-clause-answers
returns-in-Record-clause-answers c = λ rest others before.
    let next = gone c.args.reader.now c.next.new.self c.in_ok-code.field-0 (Record c.in-Record.code) c.in_ok-code.ensures c.in-Record.is in
    more_refused rest others c.args.reader.now c.next.new.self _ c.in-Record.code c.refuse_more.result (next.2 rest (ended ∷ others) before) c.refuse_more.ensures

pub returns-in-Block-clause-answers : goal.returns-in-Block-clause-answers
returns-in-Block-clause-answers c = λ rest others before.
    let next = gone c.args.reader.now c.next.new.self c.in_ok-code.field-0 (Block c.in-Block.id) c.in_ok-code.ensures c.in-Block.is in
    block_refused rest others c.args.reader.now c.next.new.self _ c.in-Block.id _ (next.2 rest (ended ∷ others) before) c.requires.one (subst (λ n. IsMisplaced c.in-Block.id n c.misplaced.result) c.at.ensures c.misplaced.ensures)

pub returns-in-End-clause-answers : goal.returns-in-End-clause-answers
returns-in-End-clause-answers c = λ rest others before.
    let next = gone c.args.reader.now c.next.new.self c.in_ok-code.field-0 End c.in_ok-code.ensures c.in-End.is in
    ends rest others c.args.reader.now c.next.new.self (next.2 rest (ended ∷ others) before) c.requires.one

pub returns-in_err-code-clause-answers : goal.returns-in_err-code-clause-answers
returns-in_err-code-clause-answers c = λ rest others before.
    let p = err_from_is_err_and c.from_residual.result c.from_residual.ensures.1 in
    rw p.1 (out_of_memory _ _ p.0 p.2)

use Rattle.std.proofs.Common.{[], ap, subst, ◌∙◌}
use Rattle.std.proofs.lemmas.Result.{err_from_is_err_and}
use Rattle.record_read.specs.declared.entry.NextEntry.TheVariants.{Block, Record, End}
use Rattle.record_read.specs.declared.fault.BitcodeFault.TheVariants as fault
use Rattle.record_read.specs.Faults.{IsMisplaced}
use Rattle.record_read.proofs.OnOpening.Answering.{gone, out_of_memory}
use Rattle.record_read.proofs.OnOpening.Ways.{block_behind, over, record_behind}
use Rattle.record_read.proofs.opening.entering.expect_end.Goals as goal

pub returns-in-End : goal.returns-in-End
returns-in-End c = λ s behind before place.
    let next = gone c.args.reader.now c.next.new.self c.in_ok-next.field-0 End c.in_ok-next.ensures c.in-End.is in
    over s behind c.args.reader.now c.next.new.self (next.2 behind [] before)

pub returns-in-Block : goal.returns-in-Block
returns-in-Block c = λ s behind before place.
    let next = gone c.args.reader.now c.next.new.self c.in_ok-next.field-0 (Block c.in-Block.id) c.in_ok-next.ensures c.in-Block.is in
    block_behind s behind c.args.reader.now c.next.new.self c.in-Block.id _ (next.2 behind [] before) place (subst (λ n. IsMisplaced c.in-Block.id n c.misplaced.result) c.at-at.ensures c.misplaced.ensures)

pub returns-in-Record : goal.returns-in-Record
returns-in-Record c = λ s behind before place.
    let next = gone c.args.reader.now c.next.new.self c.in_ok-next.field-0 (Record c.in-Record.field-0) c.in_ok-next.ensures c.in-Record.is in
    record_behind s behind c.args.reader.now c.next.new.self c.in-Record.field-0 _ (next.2 behind [] before) (ap (λ n. fault.BadRecord 8 n 5) (c.at-at.ensures ∙ place))

pub returns-in_err-next : goal.returns-in_err-next
returns-in_err-next c = λ s behind before place.
    let p = err_from_is_err_and c.from_residual.result c.from_residual.ensures.1 in
    rw p.1 (out_of_memory _ _ p.0 p.2)

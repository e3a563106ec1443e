use Rattle.std.proofs.Common.{ap, List, ℕ}
use Rattle.record_table.specs.Fields.{index}
use Rattle.record_table.specs.Layout.{counted}
use Rattle.record_write.proofs.OnOperands.Chain.{last3, reworded}
use Rattle.bitcode_write.specs.Lines.Parts.{operand_operands}
use Rattle.bitcode_write.proofs.lines.instruction.put_insertion.Goals as goal

pub returns : goal.returns
returns c = λ f body aggregate part.
    let a = c.args.numbering.now in
    let i = c.args.insertion.now in
    last3 _ _ (operand_operands a f i.aggregate) (operand_operands a f i.part) ((counted index).spell i.indices) _ _ _ (c.in_ok-put_operand.ensures f body aggregate) (c.in_ok-put_operand-2.ensures f body part)
    (reworded _ _ _ _ _ c.put_indices.ensures (ap (λ (xs : List ℕ). (counted index).spell xs) c.as_slice.ensures))

use Rattle.std.proofs.Common.{ap, List, ℕ}
use Rattle.record_table.specs.Fields.{index}
use Rattle.record_table.specs.Layout.{counted}
use Rattle.record_write.proofs.OnOperands.Chain.{last2, reworded}
use Rattle.bitcode_write.specs.Lines.Parts.{operand_operands}
use Rattle.bitcode_write.proofs.lines.instruction.put_extraction.Goals as goal

pub returns : goal.returns
returns c = λ f body aggregate.
    last2 _ _ (operand_operands c.args.numbering.now f c.args.aggregate) ((counted index).spell c.args.indices.now) _ _ (c.in_ok-put_operand.ensures f body aggregate)
    (reworded _ _ _ _ _ c.put_indices.ensures (ap (λ (xs : List ℕ). (counted index).spell xs) c.as_slice.ensures))

use Rattle.std.proofs.Common.{◌∷◌, []}
use Rattle.record_write.proofs.OnOperands.Chain.{last2}
use Rattle.bitcode_write.specs.Lines.Parts.{operand_operands}
use Rattle.bitcode_write.proofs.lines.instruction.put_some.Goals as goal

pub returns : goal.returns
returns c = λ f body has. last2 _ _ (1 ∷ []) (operand_operands c.args.numbering.now f c.args.part) _ _ c.in_ok-put_number.ensures (c.put_operand.ensures f body has)

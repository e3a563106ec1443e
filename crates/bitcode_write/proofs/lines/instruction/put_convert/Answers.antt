use Rattle.record_write.proofs.OnOperands.Chain.{last2}
use Rattle.bitcode_write.specs.Lines.Parts.{type_operands, operand_operands}
use Rattle.bitcode_write.proofs.lines.instruction.put_convert.Goals as goal

pub returns : goal.returns
returns c = λ f body has. last2 _ _ (operand_operands c.args.numbering.now f c.args.operand) (type_operands c.args.numbering.now f c.args.to) _ _ (c.in_ok-put_operand.ensures f body has) c.put_type.ensures

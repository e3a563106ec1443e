use Rattle.record_write.proofs.OnOperands.Chain.{last2}
use Rattle.bitcode_write.specs.Lines.Parts.{operand_operands, address_operands}
use Rattle.bitcode_write.proofs.lines.instruction.put_store.Goals as goal

pub returns : goal.returns
returns c = λ f body stored has align. last2 _ _ (operand_operands c.args.numbering.now f c.args.stored) (address_operands c.args.numbering.now f c.args.address c.args.align) _ _ (c.in_ok-put_operand.ensures f body stored) (c.put_address.ensures f body has align)

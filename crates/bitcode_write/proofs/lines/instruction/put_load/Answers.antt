use Rattle.record_write.proofs.OnOperands.Chain.{last2}
use Rattle.bitcode_write.specs.Lines.Parts.{type_operands, address_operands}
use Rattle.bitcode_write.proofs.lines.instruction.put_load.Goals as goal

pub returns : goal.returns
returns c = λ f body has align. last2 _ _ (type_operands c.args.numbering.now f c.args.ty) (address_operands c.args.numbering.now f c.args.address c.args.align) _ _ c.in_ok-put_type.ensures (c.put_address.ensures f body has align)

use Rattle.record_table.specs.Fields.{alignment}
use Rattle.record_write.proofs.OnOperands.Chain.{last3}
use Rattle.bitcode_write.specs.Lines.Parts.{type_operands, room_operands}
use Rattle.bitcode_write.proofs.lines.instruction.put_alloca.Goals as goal

pub returns : goal.returns
returns c = λ f body count align. last3 _ _ (type_operands c.args.numbering.now f c.args.ty) (room_operands c.args.numbering.now f c.args.count) (alignment.spell c.args.align) _ _ _ c.in_ok-put_type.ensures (c.in_ok-put_room.ensures f body count) (c.put_alignment.ensures align)

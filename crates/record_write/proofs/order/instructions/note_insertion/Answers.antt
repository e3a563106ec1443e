use Rattle.std.proofs.Common.{refl}
use Rattle.record_write.proofs.OnOrder.Going.{goes_end}
use Rattle.record_write.proofs.order.instructions.note_insertion.Goals as goal

pub note_operand-requires : goal.note_operand-requires
note_operand-requires c = record { ready = c.requires.ready; operand = c.requires.insertion.0 }

pub note_operand-requires-2 : goal.note_operand-requires-2
note_operand-requires-2 c = record { ready = c.in_ok-note_operand.ensures.ready; operand = c.requires.insertion.1 }

pub returns : goal.returns
returns c = goes_end _ _ _ _ c.note_operand-2.result c.in_ok-note_operand.ensures refl refl c.note_operand-2.ensures

use Rattle.std.proofs.Common.{refl}
use Rattle.record_write.proofs.OnOrder.Going.{goes_end}
use Rattle.record_write.proofs.order.constants.note_operand.Goals as goal

pub note_type-requires : goal.note_type-requires
note_type-requires c = record { ready = c.requires.ready; ty = c.requires.operand.0 }

pub note_value-requires : goal.note_value-requires
note_value-requires c = record { ready = c.in_ok-note_type.ensures.ready; value = c.requires.operand.1 }

pub returns : goal.returns
returns c = goes_end _ _ _ _ c.note_value.result c.in_ok-note_type.ensures refl refl c.note_value.ensures

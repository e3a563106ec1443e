use Rattle.std.proofs.Common.{refl}
use Rattle.record_write.proofs.OnOrder.Going.{goes_end, goes_then}
use Rattle.record_write.proofs.order.instructions.note_choice.Goals as goal

pub note_operand-requires : goal.note_operand-requires
note_operand-requires c = record { ready = c.requires.ready; operand = c.requires.choice.0 }

pub note_operand-requires-2 : goal.note_operand-requires-2
note_operand-requires-2 c = record { ready = c.in_ok-note_operand.ensures.ready; operand = c.requires.choice.1 }

pub note_operand-requires-3 : goal.note_operand-requires-3
note_operand-requires-3 c = record { ready = c.in_ok-note_operand-2.ensures.ready; operand = c.requires.choice.2 }

pub returns : goal.returns
returns c = goes_end _ _ _ _ c.note_operand-3.result (goes_then c.in_ok-note_operand.ensures c.in_ok-note_operand-2.ensures) refl refl c.note_operand-3.ensures

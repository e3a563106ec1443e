use Rattle.std.proofs.Common.{flat_map, refl, ap}
use Rattle.record_write.proofs.OnOrder.Going.{goes_end, goes_then}
use Rattle.record_write.specs.Order.Written.{in_operand}
use Rattle.record_write.proofs.order.instructions.note_call.Goals as goal

pub note_signature-requires : goal.note_signature-requires
note_signature-requires c = record { ready = c.requires.ready; signature = c.requires.call.0 }

pub note_value-requires : goal.note_value-requires
note_value-requires c = record { ready = c.in_ok-note_signature.ensures.ready; value = c.requires.call.1 }

pub note_operands-requires : goal.note_operands-requires
note_operands-requires c = record { ready = c.in_ok-note_value.ensures.ready; operands = rw c.as_slice.ensures c.requires.call.2 }

pub returns : goal.returns
returns c = goes_end _ _ _ _ c.note_operands.result (goes_then c.in_ok-note_signature.ensures c.in_ok-note_value.ensures) (ap (flat_map (in_operand c.args.arena.now)) c.as_slice.ensures) refl c.note_operands.ensures

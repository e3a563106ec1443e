use Rattle.std.proofs.Common.{flat_map, refl, ap}
use Rattle.record_write.proofs.OnOrder.Going.{goes_end, goes_same}
use Rattle.record_write.specs.Order.Written.{in_inst}
use Rattle.record_write.proofs.order.instructions.note_block.Goals as goal

pub note_instructions-requires : goal.note_instructions-requires
note_instructions-requires c = record { ready = c.requires.ready; instructions = rw c.as_slice.ensures c.requires.block.0 }

pub note_ending-requires : goal.note_ending-requires
note_ending-requires c = record { ready = c.in_ok-note_instructions.ensures.ready; ending = c.requires.block.1 }

pub returns : goal.returns
returns c = goes_end _ _ _ _ c.note_ending.result (goes_same (ap (flat_map (in_inst c.args.arena.now)) c.as_slice.ensures) c.in_ok-note_instructions.ensures) refl refl c.note_ending.ensures

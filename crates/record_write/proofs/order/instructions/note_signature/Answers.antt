use Rattle.std.proofs.Common.{map, refl, ap}
use Rattle.type_table.specs.Types.{tree}
use Rattle.record_write.proofs.OnOrder.Going.{goes_end}
use Rattle.record_write.proofs.order.instructions.note_signature.Goals as goal

pub note_type-requires : goal.note_type-requires
note_type-requires c = record { ready = c.requires.ready; ty = c.requires.signature.0 }

pub note_types-requires : goal.note_types-requires
note_types-requires c = record { ready = c.in_ok-note_type.ensures.ready; types = rw c.as_slice.ensures c.requires.signature.1 }

pub returns : goal.returns
returns c = goes_end _ _ _ _ c.note_types.result c.in_ok-note_type.ensures (ap (map (tree c.args.arena.now.table)) c.as_slice.ensures) refl c.note_types.ensures

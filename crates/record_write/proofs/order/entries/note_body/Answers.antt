use Rattle.std.proofs.Common.{map, length, Some, sym, ap, ◌∙◌, subst}
use Rattle.type_table.specs.Types.{tree}
use Rattle.type_table.specs.Types.{KnowsBody}
use Rattle.record_write.proofs.OnOrder.Going.{goes_none, goes_as, goes_same}
use Rattle.record_write.specs.Order.Written.{in_struct_body}
use Rattle.record_write.proofs.order.entries.note_body.Goals as goal

pub note_types-requires : goal.note_types-requires
note_types-requires c = record { ready = c.requires.ready; types = rw c.as_slice.ensures (subst (λ x. KnowsBody (length c.args.arena.now.table.types) (Some x)) c.in-Plain.is c.requires.body) }

pub returns-in-Plain : goal.returns-in-Plain
returns-in-Plain c = goes_as c.args.arena.now c.args.order.now _ _ _ c.note_types.result (ap (map (tree c.args.arena.now.table)) c.as_slice.ensures ∙ ap (λ x. in_struct_body c.args.arena.now.table (Some x)) (sym c.in-Plain.is)) c.note_types.ensures

pub note_types-requires-in-Packed : goal.note_types-requires-in-Packed
note_types-requires-in-Packed c = record { ready = c.requires.ready; types = rw c.as_slice-in-Packed.ensures (subst (λ x. KnowsBody (length c.args.arena.now.table.types) (Some x)) c.in-Packed.is c.requires.body) }

pub returns-in-Packed : goal.returns-in-Packed
returns-in-Packed c = goes_as c.args.arena.now c.args.order.now _ _ _ c.note_types-in-Packed.result (ap (map (tree c.args.arena.now.table)) c.as_slice-in-Packed.ensures ∙ ap (λ x. in_struct_body c.args.arena.now.table (Some x)) (sym c.in-Packed.is)) c.note_types-in-Packed.ensures

pub returns-in-Opaque : goal.returns-in-Opaque
returns-in-Opaque c = goes_same (ap (λ x. in_struct_body c.args.arena.now.table (Some x)) (sym c.in-Opaque.is)) (goes_none c.requires.ready)

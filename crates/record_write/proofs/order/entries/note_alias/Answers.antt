use Rattle.std.proofs.Common.{All, map, sym, ap, subst, arith}
use Rattle.std.proofs.lemmas.List.Elements.{All-tail}
use Rattle.type_table.specs.Types.{tree}
use Rattle.module_arena.specs.Known.{alias_types}
use Rattle.record_write.proofs.OnOrder.Going.{goes_end, goes_as}
use Rattle.record_write.specs.Order.Written.{in_alias_type, KnowsType}
use Rattle.record_write.proofs.order.entries.note_alias.Goals as goal

pub note_type-requires : goal.note_type-requires
note_type-requires c =
    let known = subst (λ x. All (KnowsType c.args.arena.now) (alias_types x)) c.in-Plain.is c.requires.types in
    record { ready = c.requires.ready; ty = known 0 c.in-Plain.ty (omega arith) }

pub returns-in-Plain : goal.returns-in-Plain
returns-in-Plain c = goes_as c.args.arena.now c.args.order.now _ _ _ c.note_type.result (ap (in_alias_type c.args.arena.now) (sym c.in-Plain.is)) c.note_type.ensures

pub note_type-requires-in-Function : goal.note_type-requires-in-Function
note_type-requires-in-Function c =
    let known = subst (λ x. All (KnowsType c.args.arena.now) (alias_types x)) c.in-Function.is c.requires.types in
    record { ready = c.requires.ready; ty = known 0 c.in-Function.returns (omega arith) }

pub note_types-requires : goal.note_types-requires
note_types-requires c =
    let known = subst (λ x. All (KnowsType c.args.arena.now) (alias_types x)) c.in-Function.is c.requires.types in
    record { ready = c.in_ok-note_type-in-Function.ensures.ready; types = rw c.as_slice.ensures (All-tail (KnowsType c.args.arena.now) c.in-Function.returns c.in-Function.parameters known) }

pub returns-in_ok-note_type-in-Function : goal.returns-in_ok-note_type-in-Function
returns-in_ok-note_type-in-Function c = goes_end _ _ _ _ c.note_types.result c.in_ok-note_type-in-Function.ensures (ap (map (tree c.args.arena.now.table)) c.as_slice.ensures) (ap (in_alias_type c.args.arena.now) (sym c.in-Function.is)) c.note_types.ensures

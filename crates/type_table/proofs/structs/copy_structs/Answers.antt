use Rattle.std.proofs.Common.{sym, ap, subst, ◌∙◌, ◌≡◌, ◌∷◌, [], ◌++◌, Some, slice_get, Contains, map}
use Rattle.indexmap.specs.IndexMap.{values}
use Rattle.type_table.proofs.Copied.{next_is_new, next_struct}
use Rattle.type_table.proofs.structs.copy_structs.Goals as goal

pub add_struct-requires : goal.add_struct-requires
add_struct-requires c =
    let at = c.name_at.ensures ∙ ap Some (sym c.in_ok-name.ensures) in
    λ found. next_is_new _ _ _ c.requires at (subst (λ es. Contains (map (λ e. e.0) es) c.in_ok-name.name) c.loop-i.invariant found)

pub loop-i-preserved : goal.loop-i-preserved
loop-i-preserved c =
    let name = c.name_at.ensures ∙ ap Some (sym c.in_ok-name.ensures) in
    let body : slice_get (values c.args.structs.now) c.loop-i.i ≡ Some c.in_ok-body.body = c.index.ensures ∙ ap Some (sym c.in_ok-body.ensures) in
    c.in_ok-add_struct.ensures.added
    ∙ (λ j. c.loop-i.invariant j ++ (c.in_ok-name.name, c.in_ok-body.body) ∷ [])
    ∙ sym (next_struct c.args.structs.now.entries c.loop-i.i _ _ name body)

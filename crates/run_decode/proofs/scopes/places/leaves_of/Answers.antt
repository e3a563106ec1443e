use Rattle.std.proofs.Common.{ap, sym, ◌∙◌}
use Rattle.std.specs.Prelude.{option_and_then}
use Rattle.type_table.specs.declared.layout.Layout.{Layout}
use Rattle.type_table.specs.Layout.{layout, leaves}
use Rattle.type_table.specs.Types.{Types, shape}
use Rattle.run_names.proofs.OnShapes.Outlines.{layout_is}
use Rattle.run_decode.proofs.OnScopes.Shaped.{no_leaves, shapes_same}
use Rattle.run_decode.proofs.scopes.places.leaves_of.Goals as goal

pub returns-in-Some : goal.returns-in-Some
returns-in-Some c =
    let a = c.args.arena.now in
    let laid = ap (λ (t : Types). option_and_then layout (shape t c.args.ty)) (sym c.types.ensures) ∙ sym c.in-Some.ensures in
    ap (λ (l : Layout). l.leaves) (layout_is a.table c.args.ty c.in-Some.layout laid) ∙ ap leaves (shapes_same a c.args.ty)

pub returns-in-None : goal.returns-in-None
returns-in-None c =
    let a = c.args.arena.now in
    let none = ap (λ (t : Types). option_and_then layout (shape t c.args.ty)) (sym c.types.ensures) ∙ sym c.in-None.ensures in
    no_leaves a c.args.ty c.requires none ∙ ap leaves (shapes_same a c.args.ty)

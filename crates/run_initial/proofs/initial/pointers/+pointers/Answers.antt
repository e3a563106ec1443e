use Rattle.std.proofs.Common.{ℕ, ◌<◌, length, ap, sym, subst, arith}
use Rattle.type_table.specs.Outline.{type_nesting}
use Rattle.run_names.specs.Shapes.Shapes.{shapes_in}
use Rattle.run_actions.proofs.OnSlots.Made.{struct_is}
use Rattle.run_actions.proofs.OnSlots.Nesting.{all_less, nests_within, struct_nests}
use Rattle.run_initial.proofs.initial.pointers.+pointers.Goals as goal

pub has_pointer-have_pointers-requires : goal.has_pointer-have_pointers-requires
has_pointer-have_pointers-requires t c =
    let types = c.args.types.now in
    let ps = c.parts-parts.result.now in
    let is = struct_is types c.args.ty ps c.parts-parts.ensures.parts c.in-Struct._packed c.in-Struct.ensures.shape in
    let deep = all_less types c.args.ty ps (struct_nests types c.args.ty c.in-Struct.ensures.shape.label c.in-Struct._packed (shapes_in types ps) is) c.parts-parts.ensures.nested in
    (omega (arith, deep, c.decreases), c.parts-parts.ensures.known)

pub have_pointers-has_pointer-requires : goal.have_pointers-has_pointer-requires
have_pointers-has_pointer-requires t c =
    let types = c.args.types.now in
    let deep = nests_within types c.args.parts.now c.parts.part-index c.part-item.result c.parts-test.true in
    let here = ap (type_nesting types) c.part-item.is in
    (omega (arith, deep, here, c.decreases), subst (λ (n : ℕ). n < length types.types) (sym c.part-item.is) (c.requires c.parts.part-index c.part-item.result c.parts-test.true))

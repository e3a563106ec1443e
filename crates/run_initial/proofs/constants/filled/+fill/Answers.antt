use Rattle.std.proofs.Common.{◌≡◌, ℕ, ◌<◌, [], ◌∷◌, Some, length, sym, ap, ◌∙◌, subst, arith}
use Rattle.std.proofs.lemmas.Option.{slice_get-get_or}
use Rattle.ir_eval.specs.declared.value.Scalar.{Scalar}
use Rattle.type_table.specs.Outline.{type_nesting}
use Rattle.run_names.specs.Shapes.Shapes.{shape_in, shapes_in}
use Rattle.run_names.proofs.OnShapes.Outlines.{found_all}
use Rattle.run_actions.proofs.OnSlots.Made.{array_is, struct_is}
use Rattle.run_actions.proofs.OnSlots.Nesting.{all_less, nests_within, struct_nests}
use Rattle.run_actions.proofs.OnSlots.Slotted.{fields_from}
use Rattle.run_initial.specs.Constants.Filled.{filled}
use Rattle.run_initial.proofs.OnConstants.Appended.{none_pushed, reworded}
use Rattle.run_initial.proofs.OnConstants.Fills.{copies_end, copies_more, copies_of_none, copies_start, fields_end, fields_more}
use Rattle.run_initial.proofs.constants.filled.+fill.Goals as goal

pub push_filled-returns-in-Int : goal.push_filled-returns-in-Int
push_filled-returns-in-Int t c =
    reworded _ _ _ _ _ c.push_leaf.ensures (ap (λ (leaf : Scalar). leaf ∷ []) c.leaf_in.ensures ∙ ap (filled c.args.fill) (sym c.in-Int.ensures.shape.is))

pub push_filled-returns-in-Pointer : goal.push_filled-returns-in-Pointer
push_filled-returns-in-Pointer t c =
    reworded _ _ _ _ _ c.push_leaf-in-Pointer.ensures (ap (λ (leaf : Scalar). leaf ∷ []) c.leaf_in-in-Pointer.ensures ∙ ap (filled c.args.fill) (sym c.in-Pointer.ensures.shape.is))

pub push_filled-returns-in-Nothing : goal.push_filled-returns-in-Nothing
push_filled-returns-in-Nothing t c = none_pushed _ _ (ap (filled c.args.fill) c.in-Nothing.ensures.shape.is)

pub push_filled-returns-in-Opaque : goal.push_filled-returns-in-Opaque
push_filled-returns-in-Opaque t c = none_pushed _ _ (ap (filled c.args.fill) c.in-Opaque.ensures.shape.is)

pub push_filled-push_copies-requires : goal.push_filled-push_copies-requires
push_filled-push_copies-requires t c =
    let types = c.args.types.now in
    let ps = c.parts-parts.result.now in
    let part = c.index-parts-0.result in
    let some : 0 < length ps = omega (arith, ap length c.parts-parts.ensures.parts, c.in-Array.ensures.count) in
    let here = slice_get-get_or ps 0 part some ∙ ap Some (sym c.index-parts-0.is) in
    let known = found_all types (λ part. part < length types.types) ps 0 (Some part) (sym here) c.parts-parts.ensures.known in
    let nested = found_all types (λ part. type_nesting types part < type_nesting types c.args.ty) ps 0 (Some part) (sym here) c.parts-parts.ensures.nested in
    (omega (arith, nested, c.decreases), known)

pub push_filled-returns-in-Array : goal.push_filled-returns-in-Array
push_filled-returns-in-Array t c =
    let types = c.args.types.now in
    let ps = c.parts-parts.result.now in
    let part = c.index-parts-0.result in
    let some : 0 < length ps = omega (arith, ap length c.parts-parts.ensures.parts, c.in-Array.ensures.count) in
    let here = slice_get-get_or ps 0 part some ∙ ap Some (sym c.index-parts-0.is) in
    let is = array_is types c.args.ty ps c.parts-parts.ensures.parts c.in-Array.count part c.in-Array.ensures.shape here in
    reworded _ _ _ _ _ c.push_copies.ensures (ap (filled c.args.fill) (sym is))

pub push_filled-push_fields-requires : goal.push_filled-push_fields-requires
push_filled-push_fields-requires t c =
    let types = c.args.types.now in
    let ps = c.parts-parts.result.now in
    let is = struct_is types c.args.ty ps c.parts-parts.ensures.parts c.in-Struct._packed c.in-Struct.ensures.shape in
    let deep = all_less types c.args.ty ps (struct_nests types c.args.ty c.in-Struct.ensures.shape.label c.in-Struct._packed (shapes_in types ps) is) c.parts-parts.ensures.nested in
    (omega (arith, deep, c.decreases), c.parts-parts.ensures.known)

pub push_filled-returns-in-Struct : goal.push_filled-returns-in-Struct
push_filled-returns-in-Struct t c =
    let is = struct_is c.args.types.now c.args.ty c.parts-parts.result.now c.parts-parts.ensures.parts c.in-Struct._packed c.in-Struct.ensures.shape in
    reworded _ _ _ _ _ c.push_fields.ensures (ap (filled c.args.fill) (sym is))

-- ---- copies

pub push_copies-elements-init : goal.push_copies-elements-init
push_copies-elements-init t c = copies_start c.args.count (filled c.args.fill (shape_in c.args.types.now c.args.element)) c.args.into.now.items

pub push_copies-elements-preserved : goal.push_copies-elements-preserved
push_copies-elements-preserved t c =
    copies_more c.args.count c.elements._place (filled c.args.fill (shape_in c.args.types.now c.args.element)) c.elements.into.items _ _ c.elements-test.true c.elements.invariant c.in_ok-push_filled.ensures

pub push_copies-returns-then-len-before : goal.push_copies-returns-then-len-before
push_copies-returns-then-len-before t c =
    let same : length c.push_filled.new.into.items ≡ length c.elements.into.items = omega (arith, c.len.ensures, c.len-before.ensures, c.if-len-before.true, c.push_filled.new.into.ok.0, c.elements.into.ok.0) in
    copies_of_none c.args.count c.elements._place (filled c.args.fill (shape_in c.args.types.now c.args.element)) c.elements.into.items c.push_filled.new.into.items _ c.elements.invariant c.in_ok-push_filled.ensures same

pub push_copies-returns : goal.push_copies-returns
push_copies-returns t c =
    copies_end c.args.count c.elements._place (filled c.args.fill (shape_in c.args.types.now c.args.element)) c.elements.into.items _ c.elements-test.false c.elements.invariant

-- ---- fields

pub push_fields-push_filled-requires : goal.push_fields-push_filled-requires
push_fields-push_filled-requires t c =
    let types = c.args.types.now in
    let deep = nests_within types c.args.fields.now c.fields.field-index c.field-item.result c.fields-test.true in
    let here = ap (type_nesting types) c.field-item.is in
    (omega (arith, deep, here, c.decreases), subst (λ (n : ℕ). n < length types.types) (sym c.field-item.is) (c.requires c.fields.field-index c.field-item.result c.fields-test.true))

pub push_fields-fields-preserved : goal.push_fields-fields-preserved
push_fields-fields-preserved t c =
    let types = c.args.types.now in
    let from = fields_from types c.args.fields.now c.fields.field-index c.field-item.result c.fields-test.true c.field-item.is in
    fields_more c.args.fill (shape_in types c.field-item.result) _ _ c.fields.into.items _ _ from c.fields.invariant c.in_ok-push_filled.ensures

pub push_fields-returns : goal.push_fields-returns
push_fields-returns t c = fields_end c.args.fill c.args.types.now c.args.fields.now c.fields.field-index c.fields.into.items _ (omega arith) c.fields.invariant

use Rattle.std.proofs.Common.{◌≡◌, ℕ, ◌+◌, ◌*◌, ◌^◌, ◌<◌, ◌≤◌, ◌++◌, List, [], ◌∷◌, Some, length, drop, ap, sym, ◌∙◌, subst, arith}
use Rattle.std.proofs.lemmas.Option.{slice_get-get_or}
use Rattle.run_rules.specs.Leaves.{Slot, field_slots, slots_at}
use Rattle.type_table.specs.Layout.{end_after, has_layout, field_start, size}
use Rattle.type_table.specs.declared.layout.Layout.{Layout}
use Rattle.type_table.specs.Outline.{type_nesting}
use Rattle.type_table.specs.Shape.{Shape, Shapes}
use Rattle.type_table.proofs.ShapeMeasures.{align-positive}
use Rattle.run_names.specs.Shapes.Shapes.{shape_in, shapes_in}
use Rattle.run_names.proofs.OnShapes.Outlines.{all_laid, found_all, is_laid, laid_is}
use Rattle.run_actions.proofs.OnSlots.Made.{array_is, struct_is}
use Rattle.run_actions.proofs.OnSlots.Nesting.{all_less, nests_within, struct_nests}
use Rattle.run_actions.proofs.OnSlots.Slotted.{element_ends, elements_end, elements_more, fields_end, fields_from, fields_more, no_fields_from, no_slots, struct_holds, field_ends, reworded, none_pushed}
use Rattle.run_actions.proofs.slots.slots.+slots.Goals as goal

pub push_slots-returns-then-layout_of-eq0 : goal.push_slots-returns-then-layout_of-eq0
push_slots-returns-then-layout_of-eq0 t c =
    let s = shape_in c.args.types.now c.args.ty in
    none_pushed _ _ (no_slots s c.args.at (sym (ap (λ (l : Layout). l.leaves) c.layout_of.ensures) ∙ c.if-layout_of-eq0.true))

pub push_slots-returns-in-Int : goal.push_slots-returns-in-Int
push_slots-returns-in-Int t c =
    reworded _ _ _ _ _ c.push_slot.ensures (ap (λ (slot : Slot). slot ∷ []) c.new.ensures ∙ ap (λ (s : Shape). slots_at s c.args.at) (sym c.in-Int.ensures.shape.is))

pub push_slots-returns-in-Pointer : goal.push_slots-returns-in-Pointer
push_slots-returns-in-Pointer t c =
    reworded _ _ _ _ _ c.push_slot-in-Pointer.ensures (ap (λ (slot : Slot). slot ∷ []) c.new-in-Pointer.ensures ∙ ap (λ (s : Shape). slots_at s c.args.at) (sym c.in-Pointer.ensures.shape.is))

pub push_slots-returns-in-Nothing : goal.push_slots-returns-in-Nothing
push_slots-returns-in-Nothing t c = none_pushed _ _ (ap (λ (s : Shape). slots_at s c.args.at) c.in-Nothing.ensures.shape.is)

pub push_slots-returns-in-Opaque : goal.push_slots-returns-in-Opaque
push_slots-returns-in-Opaque t c = none_pushed _ _ (ap (λ (s : Shape). slots_at s c.args.at) c.in-Opaque.ensures.shape.is)

pub push_slots-returns-in-Array : goal.push_slots-returns-in-Array
push_slots-returns-in-Array t c =
    let types = c.args.types.now in
    let part = c.index-parts-0.result in
    let some : 0 < length c.parts-parts.result.now = omega (arith, ap length c.parts-parts.ensures.parts, c.in-Array.ensures.count) in
    let here = slice_get-get_or c.parts-parts.result.now 0 part some ∙ ap Some (sym c.index-parts-0.is) in
    let is = array_is types c.args.ty c.parts-parts.result.now c.parts-parts.ensures.parts c.in-Array.count part c.in-Array.ensures.shape here in
    reworded _ _ _ _ _ c.push_elements.ensures (ap (λ (s : Shape). slots_at s c.args.at) (sym is))

pub push_slots-push_elements-requires : goal.push_slots-push_elements-requires
push_slots-push_elements-requires t c =
    let types = c.args.types.now in
    let ps = c.parts-parts.result.now in
    let part = c.index-parts-0.result in
    let some : 0 < length ps = omega (arith, ap length c.parts-parts.ensures.parts, c.in-Array.ensures.count) in
    let here = slice_get-get_or ps 0 part some ∙ ap Some (sym c.index-parts-0.is) in
    let is = array_is types c.args.ty ps c.parts-parts.ensures.parts c.in-Array.count part c.in-Array.ensures.shape here in
    let known = found_all types (λ part. part < length types.types) ps 0 (Some part) (sym here) c.parts-parts.ensures.known in
    let nested = found_all types (λ part. type_nesting types part < type_nesting types c.args.ty) ps 0 (Some part) (sym here) c.parts-parts.ensures.nested in
    let length = ap size is in
    let room = c.requires.ends in (
      omega (arith, nested, c.decreases),
      (
        known,
        (is_laid types c.type_count-count.ensures.good c.type_count-count.ensures.within part known (ap has_layout (sym is) ∙ laid_is types c.args.ty c.requires.laid), omega (arith, length, room)),
      ),
    )

pub push_slots-returns-in-Struct : goal.push_slots-returns-in-Struct
push_slots-returns-in-Struct t c =
    let is = struct_is c.args.types.now c.args.ty c.parts-parts.result.now c.parts-parts.ensures.parts c.in-Struct.packed c.in-Struct.ensures.shape in
    reworded _ _ _ _ _ c.push_fields.ensures (ap (λ (s : Shape). slots_at s c.args.at) (sym is))

pub push_slots-push_fields-requires : goal.push_slots-push_fields-requires
push_slots-push_fields-requires t c =
    let types = c.args.types.now in
    let ps = c.parts-parts.result.now in
    let label = c.in-Struct.ensures.shape.label in
    let is = struct_is types c.args.ty ps c.parts-parts.ensures.parts c.in-Struct.packed c.in-Struct.ensures.shape in
    let deep = all_less types c.args.ty ps (struct_nests types c.args.ty label c.in-Struct.packed (shapes_in types ps) is) c.parts-parts.ensures.nested in
    let holds = struct_holds label c.in-Struct.packed (shapes_in types ps) in
    let length = ap size is in
    let room = c.requires.ends in (
      omega (arith, deep, c.decreases),
      (c.parts-parts.ensures.known, (ap has_layout (sym is) ∙ laid_is types c.args.ty c.requires.laid, omega (arith, length, holds, room))),
    )

pub push_elements-push_slots-requires : goal.push_elements-push_slots-requires
push_elements-push_slots-requires t c =
    let step = size (shape_in c.args.types.now c.args.element) in
    let ends = element_ends c.args.count c.elements.place c.args.at step (2 ^ 40) c.elements-test.true c.requires.ends in
    let same = ap (λ (l : Layout). c.elements.place * l.size) c.layout_of-size.ensures in
    (omega (arith, c.decreases), (c.requires.known, (c.requires.laid, omega (arith, ends, same))))

pub push_elements-elements-preserved : goal.push_elements-elements-preserved
push_elements-elements-preserved t c =
    let s = shape_in c.args.types.now c.args.element in
    let same = ap (λ (l : Layout). slots_at s (c.args.at + c.elements.place * l.size)) c.layout_of-size.ensures in
    elements_more c.args.count c.elements.place c.args.at (size s) (slots_at s) c.elements.slots.items _ _ c.elements-test.true c.elements.invariant
    (c.in_ok-push_slots.ensures ∙ ap (λ (l : List Slot). c.elements.slots.items ++ l) same)

pub push_elements-returns : goal.push_elements-returns
push_elements-returns t c =
    let s = shape_in c.args.types.now c.args.element in
    elements_end c.args.count c.elements.place _ (size s) (slots_at s) c.elements.slots.items _ c.elements-test.false c.elements.invariant

pub push_fields-layout_of-layout-requires : goal.push_fields-layout_of-layout-requires
push_fields-layout_of-layout-requires t c =
    let types = c.args.types.now in
    let known = subst (λ (n : ℕ). n < length types.types) (sym c.field-item.is) (c.requires.known c.fields.field-index c.field-item.result c.fields-test.true) in
    let here = slice_get-get_or c.args.fields.now c.fields.field-index c.field-item.result c.fields-test.true ∙ ap Some (sym c.field-item.is) in
    record {
      known = known;
      laid = is_laid types c.type_count-count.ensures.good c.type_count-count.ensures.within c.field-item.result known (all_laid types c.args.fields.now c.fields.field-index c.field-item.result c.requires.laid here);
    }

pub push_fields-start_of-start-requires : goal.push_fields-start_of-start-requires
push_fields-start_of-start-requires t c =
    let types = c.args.types.now in
    let s = shape_in types c.field-item.result in
    let rest = shapes_in types (drop (c.fields.field-index + 1) c.args.fields.now) in
    let from = fields_from types c.args.fields.now c.fields.field-index c.field-item.result c.fields-test.true c.field-item.is in
    let ends = field_ends c.args.packed s rest _ c.fields.end _ c.fields.invariant.end from in
    let same = ap (λ (l : Layout). field_start c.args.packed c.fields.end l.align) c.layout_of-layout.ensures in
    let room = c.requires.ends in
    record {
      some = subst (λ (n : ℕ). 1 ≤ n) (sym (ap (λ (l : Layout). l.align) c.layout_of-layout.ensures)) (align-positive s);
      room = omega (arith, ends, same, room);
    }

pub push_fields-overflow_add-at : goal.push_fields-overflow_add-at
push_fields-overflow_add-at t c =
    let types = c.args.types.now in
    let rest = shapes_in types (drop (c.fields.field-index + 1) c.args.fields.now) in
    let from = fields_from types c.args.fields.now c.fields.field-index c.field-item.result c.fields-test.true c.field-item.is in
    let ends = field_ends c.args.packed (shape_in types c.field-item.result) rest _ c.fields.end _ c.fields.invariant.end from in
    let start = c.start_of-start.ensures ∙ ap (λ (l : Layout). field_start c.args.packed c.fields.end l.align) c.layout_of-layout.ensures in
    let room = c.requires.ends in
    omega (arith, ends, start, room)

pub push_fields-overflow_add-end : goal.push_fields-overflow_add-end
push_fields-overflow_add-end t c =
    let types = c.args.types.now in
    let rest = shapes_in types (drop (c.fields.field-index + 1) c.args.fields.now) in
    let from = fields_from types c.args.fields.now c.fields.field-index c.field-item.result c.fields-test.true c.field-item.is in
    let ends = field_ends c.args.packed (shape_in types c.field-item.result) rest _ c.fields.end _ c.fields.invariant.end from in
    let start = c.start_of-start.ensures ∙ ap (λ (l : Layout). field_start c.args.packed c.fields.end l.align) c.layout_of-layout.ensures in
    let long = ap (λ (l : Layout). l.size) c.layout_of-layout.ensures in
    let room = c.requires.ends in
    omega (arith, ends, start, long, room)

pub push_fields-push_slots-requires : goal.push_fields-push_slots-requires
push_fields-push_slots-requires t c =
    let types = c.args.types.now in
    let s = shape_in types c.field-item.result in
    let rest = shapes_in types (drop (c.fields.field-index + 1) c.args.fields.now) in
    let from = fields_from types c.args.fields.now c.fields.field-index c.field-item.result c.fields-test.true c.field-item.is in
    let ends = field_ends c.args.packed s rest _ c.fields.end _ c.fields.invariant.end from in
    let start = c.start_of-start.ensures ∙ ap (λ (l : Layout). field_start c.args.packed c.fields.end l.align) c.layout_of-layout.ensures in
    let room = c.requires.ends in
    let deep = nests_within types c.args.fields.now c.fields.field-index c.field-item.result c.fields-test.true in
    let here = ap (type_nesting types) c.field-item.is in
    let known = subst (λ (n : ℕ). n < length types.types) (sym c.field-item.is) (c.requires.known c.fields.field-index c.field-item.result c.fields-test.true) in
    let at = slice_get-get_or c.args.fields.now c.fields.field-index c.field-item.result c.fields-test.true ∙ ap Some (sym c.field-item.is) in
    let laid = is_laid types c.type_count-count.ensures.good c.type_count-count.ensures.within c.field-item.result known (all_laid types c.args.fields.now c.fields.field-index c.field-item.result c.requires.laid at) in
    (omega (arith, deep, here, c.decreases), (known, (laid, omega (arith, ends, start, room))))

pub push_fields-fields-preserved : goal.push_fields-fields-preserved
push_fields-fields-preserved t c =
    let types = c.args.types.now in
    let s = shape_in types c.field-item.result in
    let rest = shapes_in types (drop (c.fields.field-index + 1) c.args.fields.now) in
    let from = fields_from types c.args.fields.now c.fields.field-index c.field-item.result c.fields-test.true c.field-item.is in
    let start = c.start_of-start.ensures ∙ ap (λ (l : Layout). field_start c.args.packed c.fields.end l.align) c.layout_of-layout.ensures in
    let end : c.start_of-start.result + c.layout_of-layout.result.size ≡ c.start_of-start.result + size s = ap (λ (l : Layout). c.start_of-start.result + l.size) c.layout_of-layout.ensures in
    record {
      slots =
          ap (λ (n : ℕ). c.push_slots.new.slots.items ++ field_slots rest c.args.packed c.args.at n) end
          ∙ fields_more s rest c.args.packed c.args.at c.fields.end c.start_of-start.result c.fields.slots.items _ _ start
          (ap (λ (ss : Shapes). c.fields.slots.items ++ field_slots ss c.args.packed c.args.at c.fields.end) (sym from) ∙ c.fields.invariant.slots) c.in_ok-push_slots.ensures;
      end =
          ap (λ (n : ℕ). end_after c.args.packed n rest) (end ∙ ap (λ (n : ℕ). n + size s) start)
          ∙ ap (end_after c.args.packed c.fields.end) (sym from) ∙ c.fields.invariant.end;
    }

pub push_fields-returns : goal.push_fields-returns
push_fields-returns t c =
    let types = c.args.types.now in
    fields_end c.args.packed c.args.at c.fields.end _ c.fields.slots.items _ (no_fields_from types c.args.fields.now c.fields.field-index c.fields-test.false) c.fields.invariant.slots

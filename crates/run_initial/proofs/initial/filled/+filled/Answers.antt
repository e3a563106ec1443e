use Rattle.std.proofs.Common.{◌≡◌, ℕ, ◌+◌, ◌-◌, ◌*◌, ◌<◌, ◌≤◌, [], ◌∷◌, Some, Ok, length, drop, ap, sym, ◌∙◌, subst, false, arith, rules}
use Rattle.std.proofs.lemmas.Option.{slice_get-get_or}
use Rattle.ir_memory.specs.declared.leaf.Leaf.TheVariants as leaf
use Rattle.ir_memory.specs.Given.{IsBlock}
use Rattle.run_rules.specs.Leaves.{field_slots, repeated, slots_at}
use Rattle.type_table.specs.Layout.{end_after, has_layout, field_start, size}
use Rattle.type_table.specs.declared.layout.Layout.{Layout}
use Rattle.type_table.specs.Outline.{type_nesting}
use Rattle.type_table.specs.Shape.{Shape}
use Rattle.type_table.proofs.ShapeMeasures.{align-positive}
use Rattle.run_names.specs.Shapes.Shapes.{shape_in, shapes_in}
use Rattle.run_names.proofs.OnShapes.Outlines.{all_laid, is_laid, laid_is}
use Rattle.run_actions.proofs.OnSlots.Made.{array_is, struct_is}
use Rattle.run_actions.proofs.OnSlots.Nesting.{all_less, nests_within, struct_nests}
use Rattle.run_actions.proofs.OnSlots.Slotted.{field_ends, fields_from, struct_holds}
use Rattle.run_initial.specs.declared.initial.leaf.Target.{Target}
use Rattle.run_initial.specs.Initial.Fresh.{filled, put}
use Rattle.run_initial.proofs.OnInitial.Leaves.{nothing_needed, width_in}
use Rattle.run_initial.proofs.OnInitial.Puts.{elements_next, elements_none, fields_next, kept_on, none_put, part_end, part_more, part_refused, refused_on, reworded}
use Rattle.run_initial.proofs.initial.filled.+filled.Goals as goal

pub put_filled-returns-then-not-is_needed-clause-put : goal.put_filled-returns-then-not-is_needed-clause-put
put_filled-returns-then-not-is_needed-clause-put t c =
    let s = shape_in c.args.types.now c.args.ty in
    let none : c.is_needed.result ≡ false = search rules in
    none_put c.args.target.block (filled c.args.fill (slots_at s c.args.target.offset)) c.args.memory.now (nothing_needed c.args.fill s (sym c.is_needed.ensures ∙ none) c.args.target.offset)

pub put_filled-put_filled_leaf-requires-clause-kind : goal.put_filled-put_filled_leaf-requires-clause-kind
put_filled-put_filled_leaf-requires-clause-kind t c = width_in c.args.types.now c.type_count-count.ensures.good c.args.ty c.in-Int.width c.requires.known c.in-Int.ensures.shape.is

pub put_filled-put_filled_fields-requires : goal.put_filled-put_filled_fields-requires
put_filled-put_filled_fields-requires t c =
    let types = c.args.types.now in
    let ps = c.parts-parts.result.now in
    let label = c.in-Struct.ensures.shape.label in
    let is = struct_is types c.args.ty ps c.parts-parts.ensures.parts c.in-Struct.packed c.in-Struct.ensures.shape in
    let deep = all_less types c.args.ty ps (struct_nests types c.args.ty label c.in-Struct.packed (shapes_in types ps) is) c.parts-parts.ensures.nested in
    let holds = struct_holds label c.in-Struct.packed (shapes_in types ps) in
    let long = ap size is in
    let room = c.requires.ends in (
      omega (arith, deep, c.decreases),
      (c.parts-parts.ensures.known, (ap has_layout (sym is) ∙ laid_is types c.args.ty c.requires.laid, (omega (arith, long, holds, room), c.requires.block))),
    )

pub put_filled-returns-in-Int-clause-put : goal.put_filled-returns-in-Int-clause-put
put_filled-returns-in-Int-clause-put t c =
    let fill = c.args.fill in
    let at = c.args.target.offset in
    reworded c.put_filled_leaf.result c.args.target.block (filled fill (record { offset = at; leaf = leaf.Int c.in-Int.width } ∷ [])) (filled fill (slots_at (shape_in c.args.types.now c.args.ty) at)) c.args.memory.now c.put_filled_leaf.new.memory
    c.put_filled_leaf.ensures.put (ap (λ (s : Shape). filled fill (slots_at s at)) (sym c.in-Int.ensures.shape.is))

pub put_filled-returns-in-Pointer-clause-put : goal.put_filled-returns-in-Pointer-clause-put
put_filled-returns-in-Pointer-clause-put t c =
    let fill = c.args.fill in
    let at = c.args.target.offset in
    let r = c.put_filled_leaf-in-Pointer in
    reworded r.result c.args.target.block (filled fill (record { offset = at; leaf = leaf.Ptr } ∷ [])) (filled fill (slots_at (shape_in c.args.types.now c.args.ty) at)) c.args.memory.now r.new.memory r.ensures.put
    (ap (λ (s : Shape). filled fill (slots_at s at)) (sym c.in-Pointer.ensures.shape.is))

pub put_filled-returns-in-Array-clause-put : goal.put_filled-returns-in-Array-clause-put
put_filled-returns-in-Array-clause-put t c =
    let types = c.args.types.now in
    let fill = c.args.fill in
    let at = c.args.target.offset in
    let ps = c.parts-parts.result.now in
    let part = c.index-parts-0.result in
    let some : 0 < length ps = omega (arith, ap length c.parts-parts.ensures.parts, c.in-Array.ensures.count) in
    let here = slice_get-get_or ps 0 part some ∙ ap Some (sym c.index-parts-0.is) in
    let is = array_is types c.args.ty ps c.parts-parts.ensures.parts c.in-Array.count part c.in-Array.ensures.shape here in
    let element = shape_in types part in
    reworded c.put_filled_elements.result c.args.target.block (filled fill (repeated c.in-Array.count (slots_at element) at (size element))) (filled fill (slots_at (shape_in types c.args.ty) at)) c.args.memory.now c.put_filled_elements.new.memory
    c.put_filled_elements.ensures.put (ap (λ (s : Shape). filled fill (slots_at s at)) (sym is))

pub put_filled-returns-in-Struct-clause-put : goal.put_filled-returns-in-Struct-clause-put
put_filled-returns-in-Struct-clause-put t c =
    let types = c.args.types.now in
    let fill = c.args.fill in
    let at = c.args.target.offset in
    let ps = c.parts-parts.result.now in
    let is = struct_is types c.args.ty ps c.parts-parts.ensures.parts c.in-Struct.packed c.in-Struct.ensures.shape in
    reworded c.put_filled_fields.result c.args.target.block (filled fill (field_slots (shapes_in types ps) c.in-Struct.packed at 0)) (filled fill (slots_at (shape_in types c.args.ty) at)) c.args.memory.now c.put_filled_fields.new.memory
    c.put_filled_fields.ensures.put (ap (λ (s : Shape). filled fill (slots_at s at)) (sym is))

-- ---- elements

pub put_filled_elements-elements-preserved : goal.put_filled_elements-elements-preserved
put_filled_elements-elements-preserved t c =
    let s = shape_in c.args.types.now c.args.element in
    let p = c.args.target.block in
    let at = c.args.target.offset in
    let same = ap (λ (l : Layout). c.elements.place * l.size) c.layout_of-size.ensures in
    let there = subst (λ (x : Target). put x.block (filled c.args.fill (slots_at s x.offset)) c.elements.memory ≡ Ok c.put_filled.new.memory) c.further.ensures c.in_ok-put_filled.ensures.put in
    let stored = subst (λ (n : ℕ). put p (filled c.args.fill (slots_at s (at + n))) c.elements.memory ≡ Ok c.put_filled.new.memory) same there in
    record {
      put = part_more p (filled c.args.fill (slots_at s (at + c.elements.place * size s)))
          (filled c.args.fill (repeated (c.args.count - (c.elements.place + 1)) (slots_at s) (at + (c.elements.place + 1) * size s) (size s)))
          (filled c.args.fill (repeated (c.args.count - c.elements.place) (slots_at s) (at + c.elements.place * size s) (size s)))
          c.elements.memory c.put_filled.new.memory (put p (filled c.args.fill (repeated c.args.count (slots_at s) at (size s))) c.args.memory.now)
          (elements_next c.args.fill c.args.count c.elements.place at (size s) (slots_at s) c.elements-test.true) c.elements.invariant.put stored;
      kept = kept_on c.args.memory.now c.elements.memory c.put_filled.new.memory c.elements.invariant.kept c.in_ok-put_filled.ensures.kept;
    }

pub put_filled_elements-returns-in_err-put_filled-clause-put : goal.put_filled_elements-returns-in_err-put_filled-clause-put
put_filled_elements-returns-in_err-put_filled-clause-put t c =
    let s = shape_in c.args.types.now c.args.element in
    let p = c.args.target.block in
    let at = c.args.target.offset in
    let m = c.elements.memory in
    let same = ap (λ (l : Layout). c.elements.place * l.size) c.layout_of-size.ensures in
    let all = put p (filled c.args.fill (repeated c.args.count (slots_at s) at (size s))) c.args.memory.now in
    refused_on all (put c.further.result.block (filled c.args.fill (slots_at s c.further.result.offset)) m) c.put_filled.new.memory c.put_filled.new.memory c.from_residual.result _ c.from_residual.ensures.0 c.from_residual.ensures.1 c.in_err-put_filled.ensures.put
    (λ kind e.
    part_refused p (filled c.args.fill (slots_at s (at + c.elements.place * size s)))
    (filled c.args.fill (repeated (c.args.count - (c.elements.place + 1)) (slots_at s) (at + (c.elements.place + 1) * size s) (size s)))
    (filled c.args.fill (repeated (c.args.count - c.elements.place) (slots_at s) (at + c.elements.place * size s) (size s))) m all
    (elements_next c.args.fill c.args.count c.elements.place at (size s) (slots_at s) c.elements-test.true) c.elements.invariant.put kind
    (sym (ap (λ (n : ℕ). put p (filled c.args.fill (slots_at s (at + n))) m) same) ∙ ap (λ (x : Target). put x.block (filled c.args.fill (slots_at s x.offset)) m) (sym c.further.ensures) ∙ e))

pub put_filled_elements-returns-clause-put : goal.put_filled_elements-returns-clause-put
put_filled_elements-returns-clause-put t c =
    let s = shape_in c.args.types.now c.args.element in
    let at = c.args.target.offset in
    part_end c.args.target.block (filled c.args.fill (repeated (c.args.count - c.elements.place) (slots_at s) (at + c.elements.place * size s) (size s))) c.elements.memory
    (put c.args.target.block (filled c.args.fill (repeated c.args.count (slots_at s) at (size s))) c.args.memory.now)
    (elements_none c.args.fill c.args.count c.elements.place (c.args.target.offset + c.elements.place * size s) (size s) (slots_at s) c.elements-test.false) c.elements.invariant.put

-- ---- fields

pub put_filled_fields-layout_of-layout-requires-clause-laid : goal.put_filled_fields-layout_of-layout-requires-clause-laid
put_filled_fields-layout_of-layout-requires-clause-laid t c =
    let types = c.args.types.now in
    let known = subst (λ (n : ℕ). n < length types.types) (sym c.field-item.is) (c.requires.known c.fields.field-index c.field-item.result c.fields-test.true) in
    let here = slice_get-get_or c.args.fields.now c.fields.field-index c.field-item.result c.fields-test.true ∙ ap Some (sym c.field-item.is) in
    is_laid types c.type_count-count.ensures.good c.type_count-count.ensures.within c.field-item.result known (all_laid types c.args.fields.now c.fields.field-index c.field-item.result c.requires.laid here)

pub put_filled_fields-start_of-start-requires-clause-some : goal.put_filled_fields-start_of-start-requires-clause-some
put_filled_fields-start_of-start-requires-clause-some t c =
    subst (λ (n : ℕ). 1 ≤ n) (sym (ap (λ (l : Layout). l.align) c.layout_of-layout.ensures)) (align-positive (shape_in c.args.types.now c.field-item.result))

pub put_filled_fields-start_of-start-requires-clause-room : goal.put_filled_fields-start_of-start-requires-clause-room
put_filled_fields-start_of-start-requires-clause-room t c =
    let types = c.args.types.now in
    let s = shape_in types c.field-item.result in
    let rest = shapes_in types (drop (c.fields.field-index + 1) c.args.fields.now) in
    let from = fields_from types c.args.fields.now c.fields.field-index c.field-item.result c.fields-test.true c.field-item.is in
    let ends = field_ends c.args.packed s rest _ c.fields.end _ c.fields.invariant.end from in
    let same = ap (λ (l : Layout). field_start c.args.packed c.fields.end l.align) c.layout_of-layout.ensures in
    let room = c.requires.ends in
    omega (arith, ends, same, room)

pub put_filled_fields-further-requires : goal.put_filled_fields-further-requires
put_filled_fields-further-requires t c =
    let types = c.args.types.now in
    let rest = shapes_in types (drop (c.fields.field-index + 1) c.args.fields.now) in
    let from = fields_from types c.args.fields.now c.fields.field-index c.field-item.result c.fields-test.true c.field-item.is in
    let ends = field_ends c.args.packed (shape_in types c.field-item.result) rest _ c.fields.end _ c.fields.invariant.end from in
    let start = c.start_of-start.ensures ∙ ap (λ (l : Layout). field_start c.args.packed c.fields.end l.align) c.layout_of-layout.ensures in
    let room = c.requires.ends in
    omega (arith, ends, start, room)

pub put_filled_fields-overflow_add-end : goal.put_filled_fields-overflow_add-end
put_filled_fields-overflow_add-end t c =
    let types = c.args.types.now in
    let rest = shapes_in types (drop (c.fields.field-index + 1) c.args.fields.now) in
    let from = fields_from types c.args.fields.now c.fields.field-index c.field-item.result c.fields-test.true c.field-item.is in
    let ends = field_ends c.args.packed (shape_in types c.field-item.result) rest _ c.fields.end _ c.fields.invariant.end from in
    let start = c.start_of-start.ensures ∙ ap (λ (l : Layout). field_start c.args.packed c.fields.end l.align) c.layout_of-layout.ensures in
    let long = ap (λ (l : Layout). l.size) c.layout_of-layout.ensures in
    let room = c.requires.ends in
    omega (arith, ends, start, long, room)

pub put_filled_fields-put_filled-requires : goal.put_filled_fields-put_filled-requires
put_filled_fields-put_filled-requires t c =
    let types = c.args.types.now in
    let s = shape_in types c.field-item.result in
    let rest = shapes_in types (drop (c.fields.field-index + 1) c.args.fields.now) in
    let from = fields_from types c.args.fields.now c.fields.field-index c.field-item.result c.fields-test.true c.field-item.is in
    let ends = field_ends c.args.packed s rest _ c.fields.end _ c.fields.invariant.end from in
    let start = c.start_of-start.ensures ∙ ap (λ (l : Layout). field_start c.args.packed c.fields.end l.align) c.layout_of-layout.ensures in
    let there = ap (λ (x : Target). x.offset) c.further.ensures in
    let room = c.requires.ends in
    let deep = nests_within types c.args.fields.now c.fields.field-index c.field-item.result c.fields-test.true in
    let here = ap (type_nesting types) c.field-item.is in
    let count = c.fields.invariant.kept.0 in
    let known = subst (λ (n : ℕ). n < length types.types) (sym c.field-item.is) (c.requires.known c.fields.field-index c.field-item.result c.fields-test.true) in
    let at = slice_get-get_or c.args.fields.now c.fields.field-index c.field-item.result c.fields-test.true ∙ ap Some (sym c.field-item.is) in
    let laid = is_laid types c.type_count-count.ensures.good c.type_count-count.ensures.within c.field-item.result known (all_laid types c.args.fields.now c.fields.field-index c.field-item.result c.requires.laid at) in (
      omega (arith, deep, here, c.decreases),
      (
        known,
        (
          laid,
          (
            omega (arith, ends, start, there, room),
            subst (λ (x : Target). IsBlock (length c.fields.memory.list) x.block.block) (sym c.further.ensures) (subst (λ (n : ℕ). IsBlock n c.args.target.block.block) (sym count) c.requires.block),
          ),
        ),
      ),
    )

pub put_filled_fields-fields-preserved : goal.put_filled_fields-fields-preserved
put_filled_fields-fields-preserved t c =
    let types = c.args.types.now in
    let p = c.args.target.block in
    let at = c.args.target.offset in
    let s = shape_in types c.field-item.result in
    let rest = shapes_in types (drop (c.fields.field-index + 1) c.args.fields.now) in
    let from = fields_from types c.args.fields.now c.fields.field-index c.field-item.result c.fields-test.true c.field-item.is in
    let start = c.start_of-start.ensures ∙ ap (λ (l : Layout). field_start c.args.packed c.fields.end l.align) c.layout_of-layout.ensures in
    let long : c.start_of-start.result + c.layout_of-layout.result.size ≡ c.start_of-start.result + size s = ap (λ (l : Layout). c.start_of-start.result + l.size) c.layout_of-layout.ensures in
    let stored = subst (λ (x : Target). put x.block (filled c.args.fill (slots_at s x.offset)) c.fields.memory ≡ Ok c.put_filled.new.memory) c.further.ensures c.in_ok-put_filled.ensures.put in
    record {
      put =
          ap (λ (n : ℕ). put p (filled c.args.fill (field_slots rest c.args.packed at n)) c.put_filled.new.memory) long
          ∙ part_more p (filled c.args.fill (slots_at s (at + c.start_of-start.result))) (filled c.args.fill (field_slots rest c.args.packed at (c.start_of-start.result + size s)))
          (filled c.args.fill (field_slots (shapes_in types (drop c.fields.field-index c.args.fields.now)) c.args.packed at c.fields.end)) c.fields.memory c.put_filled.new.memory
          (put p (filled c.args.fill (field_slots (shapes_in types c.args.fields.now) c.args.packed at 0)) c.args.memory.now)
          (fields_next c.args.fill s rest (shapes_in types (drop c.fields.field-index c.args.fields.now)) c.args.packed at c.fields.end c.start_of-start.result from start) c.fields.invariant.put stored;
      end =
          ap (λ (n : ℕ). end_after c.args.packed n rest) (long ∙ ap (λ (n : ℕ). n + size s) start)
          ∙ ap (end_after c.args.packed c.fields.end) (sym from) ∙ c.fields.invariant.end;
      kept = kept_on c.args.memory.now c.fields.memory c.put_filled.new.memory c.fields.invariant.kept c.in_ok-put_filled.ensures.kept;
    }

pub put_filled_fields-returns-in_err-put_filled-clause-put : goal.put_filled_fields-returns-in_err-put_filled-clause-put
put_filled_fields-returns-in_err-put_filled-clause-put t c =
    let types = c.args.types.now in
    let p = c.args.target.block in
    let at = c.args.target.offset in
    let m = c.fields.memory in
    let s = shape_in types c.field-item.result in
    let rest = shapes_in types (drop (c.fields.field-index + 1) c.args.fields.now) in
    let from = fields_from types c.args.fields.now c.fields.field-index c.field-item.result c.fields-test.true c.field-item.is in
    let start = c.start_of-start.ensures ∙ ap (λ (l : Layout). field_start c.args.packed c.fields.end l.align) c.layout_of-layout.ensures in
    let all = put p (filled c.args.fill (field_slots (shapes_in types c.args.fields.now) c.args.packed at 0)) c.args.memory.now in
    refused_on all (put c.further.result.block (filled c.args.fill (slots_at s c.further.result.offset)) m) c.put_filled.new.memory c.put_filled.new.memory c.from_residual.result _ c.from_residual.ensures.0 c.from_residual.ensures.1 c.in_err-put_filled.ensures.put
    (λ kind e.
    part_refused p (filled c.args.fill (slots_at s (at + c.start_of-start.result))) (filled c.args.fill (field_slots rest c.args.packed at (c.start_of-start.result + size s)))
    (filled c.args.fill (field_slots (shapes_in types (drop c.fields.field-index c.args.fields.now)) c.args.packed at c.fields.end)) m all
    (fields_next c.args.fill s rest (shapes_in types (drop c.fields.field-index c.args.fields.now)) c.args.packed at c.fields.end c.start_of-start.result from start) c.fields.invariant.put kind
    (ap (λ (x : Target). put x.block (filled c.args.fill (slots_at s x.offset)) m) (sym c.further.ensures) ∙ e))

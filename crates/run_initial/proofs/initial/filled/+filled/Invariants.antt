use Rattle.std.proofs.Common.{◌≡◌, ◌+◌, ◌-◌, ◌*◌, drop}
use Rattle.ir_memory.specs.Answer.{Keeps}
use Rattle.run_rules.specs.Leaves.{field_slots, repeated, slots_at}
use Rattle.type_table.specs.Layout.{end_after, size}
use Rattle.type_table.specs.Outline.{type_nesting}
use Rattle.run_names.specs.Shapes.Shapes.{shape_in, shapes_in}
use Rattle.run_actions.proofs.OnSlots.Nesting.{deepest_of}
use Rattle.run_initial.specs.Initial.Fresh.{filled, put}
use Rattle.run_initial.proofs.initial.filled.+filled.Given as goal

-- a part nests less deep than the whole
abbrev pub decreases-put_filled : goal.decreases-put_filled
decreases-put_filled l = 2 * type_nesting l.types.now l.ty

abbrev pub decreases-put_filled_elements : goal.decreases-put_filled_elements
decreases-put_filled_elements l = 2 * type_nesting l.types.now l.element + 1

abbrev pub decreases-put_filled_fields : goal.decreases-put_filled_fields
decreases-put_filled_fields l = 2 * deepest_of l.types.now l.fields.now + 1

-- the other elements complete the array
abbrev pub invariant-put_filled_elements-elements : goal.invariant-put_filled_elements-elements
invariant-put_filled_elements-elements l = record {
  put :
      put l.target.block (filled l.fill (repeated (l.count - l.place) (slots_at (shape_in l.types l.element)) (l.target.offset + l.place * size (shape_in l.types l.element)) (size (shape_in l.types l.element)))) l.memory
      ≡ put l.target.block (filled l.fill (repeated l.count (slots_at (shape_in l.types l.element)) l.target.offset (size (shape_in l.types l.element)))) l.fn.memory;
  kept : Keeps l.fn.memory l.memory;
}

-- the other fields complete the struct, which ends where it ends
abbrev pub invariant-put_filled_fields-fields : goal.invariant-put_filled_fields-fields
invariant-put_filled_fields-fields l = record {
  put :
      put l.target.block (filled l.fill (field_slots (shapes_in l.types (drop l.field-index l.fields)) l.packed l.target.offset l.end)) l.memory
      ≡ put l.target.block (filled l.fill (field_slots (shapes_in l.types l.fields) l.packed l.target.offset 0)) l.fn.memory;
  end : end_after l.packed l.end (shapes_in l.types (drop l.field-index l.fields)) ≡ end_after l.packed 0 (shapes_in l.types l.fields);
  kept : Keeps l.fn.memory l.memory;
}

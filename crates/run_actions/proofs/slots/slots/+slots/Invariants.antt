use Rattle.std.proofs.Common.{◌≡◌, ◌+◌, ◌-◌, ◌*◌, ◌++◌, drop}
use Rattle.run_rules.specs.Leaves.{field_slots, repeated, slots_at}
use Rattle.type_table.specs.Layout.{end_after, size}
use Rattle.type_table.specs.Outline.{type_nesting}
use Rattle.run_names.specs.Shapes.Shapes.{shape_in, shapes_in}
use Rattle.run_actions.proofs.OnSlots.Nesting.{deepest_of}
use Rattle.run_actions.proofs.slots.slots.+slots.Given as goal

-- a part nests less deep than the whole
abbrev pub decreases-push_slots : goal.decreases-push_slots
decreases-push_slots l = 2 * type_nesting l.types.now l.ty

abbrev pub decreases-push_elements : goal.decreases-push_elements
decreases-push_elements l = 2 * type_nesting l.types.now l.element + 1

abbrev pub decreases-push_fields : goal.decreases-push_fields
decreases-push_fields l = 2 * deepest_of l.types.now l.fields.now + 1

-- the slots of the other elements complete the array
abbrev pub invariant-push_elements-elements : goal.invariant-push_elements-elements
invariant-push_elements-elements l =
    l.slots.items ++ repeated (l.count - l.place) (slots_at (shape_in l.types l.element)) (l.at + l.place * size (shape_in l.types l.element)) (size (shape_in l.types l.element))
    ≡ l.fn.slots.items ++ repeated l.count (slots_at (shape_in l.types l.element)) l.at (size (shape_in l.types l.element))

-- the slots of the other fields complete the struct, which ends where it ends
abbrev pub invariant-push_fields-fields : goal.invariant-push_fields-fields
invariant-push_fields-fields l = record {
  slots : l.slots.items ++ field_slots (shapes_in l.types (drop l.field-index l.fields)) l.packed l.at l.end ≡ l.fn.slots.items ++ field_slots (shapes_in l.types l.fields) l.packed l.at 0;
  end : end_after l.packed l.end (shapes_in l.types (drop l.field-index l.fields)) ≡ end_after l.packed 0 (shapes_in l.types l.fields);
}

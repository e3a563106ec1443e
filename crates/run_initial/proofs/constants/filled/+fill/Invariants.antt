use Rattle.std.proofs.Common.{◌≡◌, ◌+◌, ◌-◌, ◌*◌, ◌++◌, drop}
use Rattle.type_table.specs.Outline.{type_nesting}
use Rattle.run_names.specs.Shapes.Shapes.{shape_in, shapes_in}
use Rattle.run_initial.specs.Constants.Filled.{all_filled, copies, filled}
use Rattle.run_actions.proofs.OnSlots.Nesting.{deepest_of}
use Rattle.run_initial.proofs.constants.filled.+fill.Given as goal

-- a part nests less deep than the whole
abbrev pub decreases-push_filled : goal.decreases-push_filled
decreases-push_filled l = 2 * type_nesting l.types.now l.ty

abbrev pub decreases-push_copies : goal.decreases-push_copies
decreases-push_copies l = 2 * type_nesting l.types.now l.element + 1

abbrev pub decreases-push_fields : goal.decreases-push_fields
decreases-push_fields l = 2 * deepest_of l.types.now l.fields.now + 1

-- the other copies complete the array
abbrev pub invariant-push_copies-elements : goal.invariant-push_copies-elements
invariant-push_copies-elements l =
    l.into.items ++ copies (l.count - l._place) (filled l.fill (shape_in l.types l.element)) ≡ l.initial.into.items ++ copies l.count (filled l.fill (shape_in l.types l.element))

-- the other fields complete the struct
abbrev pub invariant-push_fields-fields : goal.invariant-push_fields-fields
invariant-push_fields-fields l =
    l.into.items ++ all_filled l.fill (shapes_in l.types (drop l.field-index l.fields)) ≡ l.initial.into.items ++ all_filled l.fill (shapes_in l.types l.fields)

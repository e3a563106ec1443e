use Rattle.std.proofs.Common.{◌≡◌, take}
use Rattle.type_table.specs.Layout.{all_leaves}
use Rattle.run_names.specs.Shapes.Shapes.{shapes_in}
use Rattle.run_names.proofs.types.part.leaves_of.Given as goal

-- the leaves of the fields so far
abbrev pub invariant-fields : goal.invariant-fields
invariant-fields l = l.count ≡ all_leaves (shapes_in l.types (take l.field-index l.fields))

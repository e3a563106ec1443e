use Rattle.std.proofs.Common.{◌≡◌, ◌+◌, ◌*◌, drop}
use Rattle.type_table.specs.Outline.{type_nesting}
use Rattle.run_names.specs.Shapes.Shapes.{shapes_in}
use Rattle.run_actions.proofs.OnSlots.Nesting.{deepest_of}
use Rattle.run_initial.specs.Initial.Fresh.{have_pointers}
use Rattle.run_initial.proofs.initial.pointers.+pointers.Given as goal

-- a part nests less deep than the whole
abbrev pub decreases-has_pointer : goal.decreases-has_pointer
decreases-has_pointer l = 2 * type_nesting l.types.now l.ty

abbrev pub decreases-have_pointers : goal.decreases-have_pointers
decreases-have_pointers l = 2 * deepest_of l.types.now l.parts.now + 1

-- those so far have none
abbrev pub invariant-have_pointers-parts : goal.invariant-have_pointers-parts
invariant-have_pointers-parts l = have_pointers (shapes_in l.types (drop l.part-index l.parts)) ≡ have_pointers (shapes_in l.types l.parts)

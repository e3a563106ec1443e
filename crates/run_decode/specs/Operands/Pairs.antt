-- For `put_operand`, `put_arms` and `put_parts`: the leaves of an operand, and the arm and the part that are made of two.
use Rattle.std.specs.Prelude.{List}
use Rattle.module_arena.specs.declared.instruction.Operand as the_operand
use Rattle.run_actions.specs.declared.values.Arm.{Arm}
use Rattle.run_actions.specs.declared.values.FrozenLeaf.{FrozenLeaf}
use Rattle.run_rules.specs.Action as actions
use Rattle.run_rules.specs.Leaves.{Slot, is_pointer}
use Rattle.run_rules.specs.Scope.{operand_in}
use Rattle.run_decode.specs.Scopes.Scopes.{Framed, operand_of, scope_in}
use Rattle.run_actions.specs.declared.stack.origin.Origin.{Origin}

-- where the leaves of an operand come from
abbrev pub origins_in : Framed → the_operand.Operand → List actions.Origin
origins_in s o = operand_in (scope_in s.lists s.function) (operand_of s.lists s.function o)

-- a leaf of each of two values
abbrev pub arm_with : Origin × Origin → Arm
arm_with p = record { first = p.0; second = p.1 }

-- a leaf, and whether it is a pointer
abbrev pub part_with : Slot × Origin → FrozenLeaf
part_with p = record { pointer = is_pointer p.0.leaf; value = p.1 }

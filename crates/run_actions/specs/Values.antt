-- For `select` and `freeze`: the operands of an action as the code has them, a leaf of each.
use Rattle.std.specs.Prelude.{Bool}
use Rattle.run_rules.specs.Action as actions
use Rattle.run_actions.specs.Stack.Origins.{origin_of}
use Rattle.run_actions.specs.Stack.UnderWay.{UnderWay}
use Rattle.run_actions.specs.declared.values.Arm.{Arm}
use Rattle.run_actions.specs.declared.values.FrozenLeaf.{FrozenLeaf}
use Rattle.run_actions.specs.Operands.{IsThere}

-- what they are in an action
abbrev pub arm_of : Arm → actions.Origin × actions.Origin
arm_of a = (origin_of a.first, origin_of a.second)

-- the same of a leaf that is frozen
abbrev pub part_of : FrozenLeaf → Bool × actions.Origin
part_of p = (p.pointer, origin_of p.value)

-- the newest frame has the places of both
abbrev pub IsArmThere : UnderWay → Arm → Type 0
IsArmThere s a = IsThere s a.first × IsThere s a.second

-- and of that leaf
abbrev pub IsPartThere : UnderWay → FrozenLeaf → Type 0
IsPartThere s p = IsThere s p.value

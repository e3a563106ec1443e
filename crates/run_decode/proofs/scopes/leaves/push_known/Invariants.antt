use Rattle.std.proofs.Common.{map, take}
use Rattle.run_rules.specs.Action.{Known}
use Rattle.run_decode.specs.Scopes.Leaves.{Gains}
use Rattle.run_decode.proofs.scopes.leaves.push_known.Given as goal

-- the leaves so far are there
abbrev pub invariant-leaves : goal.invariant-leaves
invariant-leaves l = Gains l.fn.into.items l.into.items (map Known (take l.leaf-index l.leaves))

use Rattle.std.proofs.Common.{◌≡◌, ◌+◌, ◌*◌, ◌++◌, drop}
use Rattle.run_initial.proofs.OnConstants.Lists.{values_of}
use Rattle.run_initial.proofs.OnConstants.Within.{top}
use Rattle.run_initial.proofs.constants.leaves.+leaves.Given as goal

-- a constant has earlier ones in it
abbrev pub decreases-push_leaves : goal.decreases-push_leaves
decreases-push_leaves l = 2 * l.id + 1

abbrev pub decreases-push_parts : goal.decreases-push_parts
decreases-push_parts l = 2 * top l.parts.now

-- the leaves of the other parts complete those of all
abbrev pub invariant-push_parts-parts : goal.invariant-push_parts-parts
invariant-push_parts-parts l = l.into.items ++ values_of l.names (drop l.part-index l.parts) ≡ l.initial.into.items ++ values_of l.names l.parts

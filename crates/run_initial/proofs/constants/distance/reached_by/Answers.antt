use Rattle.std.proofs.Common.{◌*◌, ◌^◌, Option, ℤ, ap, ◌∙◌, subst, arith}
use Rattle.std.specs.Prelude.{IfSome}
use Rattle.run_actions.specs.Accesses.Near.{IsNear}
use Rattle.run_rules.specs.Displace.{sum_of}
use Rattle.run_initial.proofs.OnConstants.Distances.{near_weaker}
use Rattle.run_initial.proofs.constants.distance.reached_by.Goals as goal

pub sum-distance-requires-clause-second : goal.sum-distance-requires-clause-second
sum-distance-requires-clause-second c = near_weaker c.reach_in-further.result (2 ^ 63 * 2 ^ 40) (2 ^ 125) (omega arith) c.reach_in-further.ensures.near

pub returns-clause-distance : goal.returns-clause-distance
returns-clause-distance c = c.sum-distance.ensures ∙ ap (sum_of c.args.reached.distance) c.reach_in-further.ensures.value

pub returns-clause-near : goal.returns-clause-near
returns-clause-near c = subst (λ (o : Option ℤ). IfSome o (IsNear (2 ^ 63 * 2 ^ 40))) c.reach_in-further.ensures.value c.reach_in-further.ensures.near

use Rattle.std.proofs.Common.{◌-◌, ◌≤◌, All, take}
use Rattle.run_decode.proofs.body.widest.widest_case.Given as goal

-- the edge of none of the cases so far sets more
abbrev pub invariant-cases : goal.invariant-cases
invariant-cases l = All (λ c. c.edge.end - c.edge.first ≤ l.widest) (take l.case-index l.cases)

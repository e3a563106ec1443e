use Rattle.std.proofs.Common.{◌-◌, ◌≤◌, All, take}
use Rattle.run_decode.proofs.body.widest.widest_edge.Given as goal

-- none of the edges so far sets more
abbrev pub invariant-edges : goal.invariant-edges
invariant-edges l = All (λ e. e.end - e.first ≤ l.widest) (take l.edge-index l.edges)

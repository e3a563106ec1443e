use Rattle.std.proofs.Common.{◌≡◌, drop}
use Rattle.run_actions.specs.Edges.{chosen_of}
use Rattle.run_actions.proofs.ways.chosen.Given as goal

-- none of the cases so far has the number
abbrev pub invariant-looking : goal.invariant-looking
invariant-looking l = chosen_of l.number l.otherwise (drop l.case-index l.cases) ≡ chosen_of l.number l.otherwise l.cases

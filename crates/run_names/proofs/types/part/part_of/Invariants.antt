use Rattle.run_names.proofs.OnTypes.OnTheWay.{IsOnTheWay}
use Rattle.run_names.proofs.types.part.part_of.Given as goal

-- the other indices lead from here to where all lead
abbrev pub invariant-indices : goal.invariant-indices
invariant-indices l = IsOnTheWay l.types l.fn.whole l.indices l.index-index l.part

use Rattle.std.proofs.Common.{◌≡◌, drop, map}
use Rattle.run_decode.specs.Scopes.Places.{end_from}
use Rattle.run_decode.specs.Scopes.Scopes.{typed_parameter}
use Rattle.run_acts.proofs.program.leaves.parameter_leaves.Given as goal

-- those so far and those of the other parameters are all
abbrev pub invariant-parameters : goal.invariant-parameters
invariant-parameters l = end_from l.end (map (typed_parameter l.arena) (drop l.parameter-index l.parameters)) ≡ end_from 0 (map (typed_parameter l.arena) l.parameters)

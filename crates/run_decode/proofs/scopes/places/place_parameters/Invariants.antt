use Rattle.std.proofs.Common.{map, take}
use Rattle.run_decode.specs.Scopes.Places.{AreAdded}
use Rattle.run_decode.specs.Scopes.Scopes.{typed_parameter}
use Rattle.run_decode.proofs.scopes.places.place_parameters.Given as goal

-- the parameters so far are placed
abbrev pub invariant-parameters : goal.invariant-parameters
invariant-parameters l = AreAdded 0 (map (typed_parameter l.arena) (take l.parameter-index l.parameters)) l.fn.places.items l.places.items l.next

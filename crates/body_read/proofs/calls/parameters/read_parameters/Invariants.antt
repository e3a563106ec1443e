use Rattle.std.proofs.Common.{◌≡◌, ◌-◌}
use Rattle.body_read.specs.Calls.Calls.{only_known}
use Rattle.body_read.proofs.OnCalls.ParameterTypes.{AreTaken}
use Rattle.body_read.proofs.calls.parameters.read_parameters.Given as goal

abbrev pub invariant-types : goal.invariant-types
invariant-types l = record { taken : AreTaken l.initial.m l.m l.count l.place l.types.items; gathered : l.known.items ≡ only_known l.types.items }

abbrev pub decreases-types : goal.decreases-types
decreases-types l = l.count - l.place

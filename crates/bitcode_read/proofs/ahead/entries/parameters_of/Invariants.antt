use Rattle.std.proofs.Common.{◌≡◌, ◌++◌, ◌-◌, length, drop}
use Rattle.bitcode_read.specs.Ahead.Entries.{parameters_called}
use Rattle.bitcode_read.proofs.ahead.entries.parameters_of.Given as goal

abbrev pub invariant-places : goal.invariant-places
invariant-places l = l.parameters.items ++ parameters_called l.names l.place (drop l.place l.types) ≡ parameters_called l.names 0 l.types

abbrev pub decreases-places : goal.decreases-places
decreases-places l = length l.types - l.place

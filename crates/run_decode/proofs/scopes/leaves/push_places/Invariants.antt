use Rattle.std.proofs.Common.{◌-◌, map}
use Rattle.std.specs.List.{range_with_len}
use Rattle.run_rules.specs.Action.{Held}
use Rattle.run_decode.specs.Scopes.Leaves.{Gains}
use Rattle.run_decode.proofs.scopes.leaves.push_places.Given as goal

-- the places so far are there
abbrev pub invariant-places : goal.invariant-places
invariant-places l = Gains l.fn.into.items l.into.items (map Held (range_with_len l.begin (l.place - l.begin)))

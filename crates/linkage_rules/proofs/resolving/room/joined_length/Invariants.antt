use Rattle.std.proofs.Common.{◌≡◌, map, filter, take}
use Rattle.linkage_rules.specs.Ids.{modules, seen}
use Rattle.linkage_rules.specs.Addresses.{joined_length}
use Rattle.linkage_rules.specs.Winner.{is_definition}
use Rattle.linkage_rules.specs.Resolving.Places.{clamped}
use Rattle.linkage_rules.proofs.resolving.room.joined_length.Given as goal

abbrev pub invariant-loop-id : goal.invariant-loop-id
invariant-loop-id l = l.length ≡ clamped (joined_length (filter is_definition (map (seen (modules l.parts)) (take l.id-index l.ids))))

use Rattle.std.proofs.Common.{◌≡◌, take, map, All}
use Rattle.std.specs.Option.{option_map}
use Rattle.indexmap.specs.IndexMap.{keys}
use Rattle.linkage_rules.specs.Grouped.{IsHome}
use Rattle.linkage_rules.specs.Ids.{modules, seen}
use Rattle.linkage_rules.specs.Winner.{home}
use Rattle.linkage_rules.proofs.homes.homes.Given as goal

abbrev pub invariant-loop-index : goal.invariant-loop-index
invariant-loop-index l = record {
  each : map (option_map (seen (modules l.parts))) l.homes.items ≡ map (home (modules l.parts)) (take l.index (keys l.groups));
  known : All (IsHome l.parts) l.homes.items;
}

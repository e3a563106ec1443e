use Rattle.std.proofs.Common.{◌≡◌, ◌≤◌, length, drop}
use Rattle.std.specs.Option.{option_map}
use Rattle.linkage_rules.specs.Grouped.{IsHome, home_among}
use Rattle.linkage_rules.specs.Ids.{modules, seen}
use Rattle.linkage_rules.proofs.homes.home_among.Given as goal

abbrev pub invariant-back : goal.invariant-back
invariant-back l = record {
  within : l.index ≤ length l.ids;
  known : IsHome l.parts l.best;
  home : option_map (seen (modules l.parts)) l.best ≡ home_among (modules l.parts) (drop l.index l.ids);
}

abbrev pub decreases-back : goal.decreases-back
decreases-back l = l.index

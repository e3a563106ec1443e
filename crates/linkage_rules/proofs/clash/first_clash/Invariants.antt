use Rattle.std.proofs.Common.{◌≡◌, map, drop}
use Rattle.linkage_rules.specs.Grouped.{first_clash}
use Rattle.linkage_rules.specs.Ids.{modules, seen}
use Rattle.linkage_rules.proofs.clash.first_clash.Given as goal

abbrev pub invariant-loop-index : goal.invariant-loop-index
invariant-loop-index l =
    let parts = modules l.parts in
    first_clash parts l.kind (map (seen parts) l.ids) ≡ first_clash parts l.kind (map (seen parts) (drop l.index l.ids))

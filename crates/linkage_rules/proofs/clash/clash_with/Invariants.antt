use Rattle.std.proofs.Common.{◌≡◌, map, drop}
use Rattle.linkage_rules.specs.Grouped.{clash_with}
use Rattle.linkage_rules.specs.Ids.{modules, seen}
use Rattle.linkage_rules.proofs.clash.clash_with.Given as goal

abbrev pub invariant-loop-id : goal.invariant-loop-id
invariant-loop-id l =
    let parts = modules l.parts in
    clash_with parts l.kind (seen parts l.one) (map (seen parts) l.ids) ≡ clash_with parts l.kind (seen parts l.one) (map (seen parts) (drop l.id-index l.ids))

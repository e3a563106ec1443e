use Rattle.std.proofs.Common.{◌≡◌, map, drop}
use Rattle.std.specs.List.{list_all}
use Rattle.linkage_rules.specs.Entries.{Entry}
use Rattle.linkage_rules.specs.Globals.{linkage_of}
use Rattle.linkage_rules.specs.Ids.{modules, seen}
use Rattle.linkage_rules.specs.Linkages.{is_extern_weak}
use Rattle.linkage_rules.proofs.resolving.absent.are_extern_weak.Given as goal

abbrev pub invariant-loop-id : goal.invariant-loop-id
invariant-loop-id l =
    list_all (λ (e : Entry). is_extern_weak (linkage_of e.global)) (map (seen (modules l.parts)) l.ids)
    ≡ list_all (λ (e : Entry). is_extern_weak (linkage_of e.global)) (map (seen (modules l.parts)) (drop l.id-index l.ids))

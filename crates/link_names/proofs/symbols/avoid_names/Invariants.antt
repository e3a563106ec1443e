use Rattle.std.proofs.Common.{◌≡◌, map, take}
use Rattle.linkage_rules.specs.Globals.{name_of}
use Rattle.linkage_rules.specs.Ids.{modules, seen}
use Rattle.link_names.specs.Naming.{HasMore}
use Rattle.link_names.proofs.symbols.avoid_names.Given as goal

abbrev pub invariant-loop-id : goal.invariant-loop-id
invariant-loop-id l = record {
  avoided : HasMore l.fn.naming.avoided (map (λ id. name_of (seen (modules l.parts) id).global) (take l.id-index l.ids)) l.naming.avoided;
  given : l.naming.given ≡ l.fn.naming.given;
}

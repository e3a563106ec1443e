use Rattle.std.proofs.Common.{◌≡◌, take, filter}
use Rattle.linkage_rules.specs.Globals.{is_alias}
use Rattle.linkage_rules.specs.Ids.{modules, seen}
use Rattle.linkage_rules.proofs.groups.aliases_among.Given as goal

abbrev pub invariant-loop-id : goal.invariant-loop-id
invariant-loop-id l = l.found.items ≡ filter (λ id. is_alias (seen (modules l.parts) id).global) (take l.id-index l.ids)

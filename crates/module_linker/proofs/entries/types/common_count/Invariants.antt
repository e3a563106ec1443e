use Rattle.std.proofs.Common.{◌≡◌, ◌≤◌, length, take}
use Rattle.linkage_rules.specs.Addresses.{commons}
use Rattle.module_linker.specs.Entries.Definitions.{entries_defined}
use Rattle.module_linker.proofs.entries.types.common_count.Given as goal

abbrev pub invariant-ids : goal.invariant-ids
invariant-ids l = record {
  few : l.count ≤ l.id-index;
  counted : l.count ≡ length (commons (entries_defined l.parts (take l.id-index l.ids)));
}

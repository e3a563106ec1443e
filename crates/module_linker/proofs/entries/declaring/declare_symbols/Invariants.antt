use Rattle.std.proofs.Common.{◌≡◌, ◌≤◌, length, take}
use Rattle.linkage_rules.specs.Ids.{modules}
use Rattle.link_rules.specs.Linked.{linked_globals}
use Rattle.module_linker.specs.Stages.Declared.{ids_from}
use Rattle.module_linker.specs.Entries.Room.{IsDeclaring}
use Rattle.module_linker.proofs.entries.declaring.declare_symbols.Given as goal

abbrev pub invariant-each : goal.invariant-each
invariant-each l = record {
  upto : l.index ≤ length l.symbols;
  declaring : IsDeclaring l.parts l.index l.into.arena l.copiers;
  ids : l.ids.items ≡ ids_from 0 0 0 (take l.index (linked_globals (modules l.parts)));
}

use Rattle.std.proofs.Common.{◌≡◌, take}
use Rattle.type_table.specs.Types.{structs}
use Rattle.module_arena.specs.View.{module_of}
use Rattle.item_build.specs.Types.Holding.{entries}
use Rattle.item_build.specs.Partly.{with_structs}
use Rattle.module_linker.specs.Head.Head.{only_named}
use Rattle.module_linker.proofs.head.naming.name_structs.Given as goal

abbrev pub invariant-names : goal.invariant-names
invariant-names l = record {
  table : l.into.arena.table ≡ only_named (take l.name-index l.names);
  joined : module_of l.into.arena ≡ with_structs (module_of l.fn.into.arena) (structs l.into.arena.table);
  others : entries l.into.arena ≡ entries l.fn.into.arena;
}

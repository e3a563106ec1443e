use Rattle.std.proofs.Common.{◌≡◌, ◌≤◌, take, length}
use Rattle.type_table.specs.Types.{structs}
use Rattle.module_arena.specs.View.{module_of}
use Rattle.item_build.specs.Types.Holding.{entries}
use Rattle.item_build.specs.Named.{named_table}
use Rattle.item_build.specs.Partly.{with_structs}
use Rattle.entry_copy.proofs.structs.naming.name_structs.Given as goal

abbrev pub invariant-structs : goal.invariant-structs
invariant-structs l = record {
  upto : l.number ≤ length l.from.table.structs;
  table : l.into.arena.table ≡ named_table (take l.number (structs l.from.table));
  joined : module_of l.into.arena ≡ with_structs (module_of l.fn.into.arena) (structs l.into.arena.table);
  others : entries l.into.arena ≡ entries l.fn.into.arena;
}

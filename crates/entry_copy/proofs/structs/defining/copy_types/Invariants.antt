use Rattle.std.proofs.Common.{◌≡◌, ◌≤◌, length}
use Rattle.type_table.specs.Types.{structs}
use Rattle.module_arena.specs.View.{module_of}
use Rattle.module_arena.specs.Renamed.{own}
use Rattle.item_build.specs.Types.Holding.{entries}
use Rattle.item_build.specs.Partly.{IsPartly, with_structs}
use Rattle.entry_copy.specs.Copies.{CopiesTypes}
use Rattle.entry_copy.specs.Tables.{with_types}
use Rattle.entry_copy.proofs.structs.defining.copy_types.Given as goal

abbrev pub invariant-copied : goal.invariant-copied
invariant-copied l = record {
  upto : l.number ≤ length l.from.table.types;
  joined : module_of l.into.arena ≡ with_structs (module_of l.fn.into.arena) (structs l.into.arena.table);
  others : entries l.into.arena ≡ entries l.fn.into.arena;
  tables : l.copier ≡ with_types l.fn.copier l.copier.types;
  partly : IsPartly (structs l.from.table) l.into.arena;
  copies : CopiesTypes own l.from l.into.arena l.copier;
}

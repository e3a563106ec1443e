use Rattle.std.proofs.Common.{◌≡◌, take}
use Rattle.ir_syntax.specs.View.{items_view}
use Rattle.type_table.specs.Types.{structs}
use Rattle.module_arena.specs.View.{module_of}
use Rattle.name_rules.specs.ModuleOf.{structs_in}
use Rattle.item_build.specs.Types.Holding.{entries}
use Rattle.item_build.specs.Named.{named_table}
use Rattle.item_build.specs.Partly.{with_structs}
use Rattle.item_build.proofs.naming.name_structs.Given as goal

abbrev pub invariant-items : goal.invariant-items
invariant-items l = record {
  table : l.builder.arena.table ≡ named_table (structs_in (items_view (take l.item-index l.items)));
  joined : module_of l.builder.arena ≡ with_structs (module_of l.fn.builder.arena) (structs l.builder.arena.table);
  others : entries l.builder.arena ≡ entries l.fn.builder.arena;
}

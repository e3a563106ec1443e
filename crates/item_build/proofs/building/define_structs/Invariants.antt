use Rattle.std.proofs.Common.{◌≡◌, length, take}
use Rattle.ir_syntax.specs.View.{items_view}
use Rattle.type_table.specs.Types.{structs}
use Rattle.module_arena.specs.View.{module_of}
use Rattle.name_rules.specs.ModuleOf.{structs_in}
use Rattle.item_build.specs.Types.Holding.{entries}
use Rattle.item_build.specs.Named.{AreDone}
use Rattle.item_build.specs.Partly.{IsPartly, with_structs}
use Rattle.item_build.proofs.building.define_structs.Given as goal

abbrev pub invariant-items : goal.invariant-items
invariant-items l = record {
  joined : module_of l.builder.arena ≡ with_structs (module_of l.fn.builder.arena) (structs l.builder.arena.table);
  others : entries l.builder.arena ≡ entries l.fn.builder.arena;
  partly : IsPartly (structs_in (items_view l.items)) l.builder.arena;
  number : l.number ≡ length (structs_in (items_view (take l.item-index l.items)));
  done : AreDone (structs_in (items_view l.items)) l.builder.arena l.number;
}

use Rattle.std.proofs.Common.{◌≡◌}
use Rattle.ir_syntax.specs.View.{items_view}
use Rattle.type_table.specs.Types.{structs}
use Rattle.module_arena.specs.View.{module_of}
use Rattle.name_rules.specs.ModuleOf.{structs_in}
use Rattle.item_build.specs.Types.Holding.{entries}
use Rattle.item_build.specs.Partly.{IsPartly, with_structs}
use Rattle.item_build.proofs.along.define_along.Given as goal

-- structs of which some have no body yet
abbrev pub invariant-order : goal.invariant-order
invariant-order l = record {
  joined : module_of l.builder.arena ≡ with_structs (module_of l.fn.builder.arena) (structs l.builder.arena.table);
  others : entries l.builder.arena ≡ entries l.fn.builder.arena;
  partly : IsPartly (structs_in (items_view l.items)) l.builder.arena;
}

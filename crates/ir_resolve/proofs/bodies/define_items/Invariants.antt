use Rattle.std.proofs.Common.{◌≡◌, length, take, drop}
use Rattle.std.specs.Prelude.{filter_map}
use Rattle.ir_syntax.specs.View.{items_view}
use Rattle.module_arena.specs.View.{module_of}
use Rattle.name_rules.specs.ModuleOf.{function_in}
use Rattle.ir_resolve.specs.Defining.{with_bodies}
use Rattle.ir_resolve.proofs.bodies.define_items.Given as goal

abbrev pub invariant-items : goal.invariant-items
invariant-items l = record {
  joined : module_of l.builder.arena ≡ with_bodies (module_of l.fn.builder.arena) (items_view (take l.item-index l.items)) (items_view (drop l.item-index l.items));
  number : l.number ≡ length (filter_map function_in (items_view (take l.item-index l.items)));
}

use Rattle.std.proofs.Common.{◌≡◌, take}
use Rattle.ir_syntax.specs.View.{items_view}
use Rattle.module_arena.specs.View.{module_of}
use Rattle.item_build.specs.Types.Declarations.{AreUntargeted}
use Rattle.item_build.specs.Declaring.{with_declared}
use Rattle.item_build.proofs.declaring.declare_items.Given as goal

abbrev pub invariant-items : goal.invariant-items
invariant-items l = record {
  joined : module_of l.builder.arena ≡ with_declared (module_of l.fn.builder.arena) (items_view (take l.item-index l.items));
  untargeted : AreUntargeted 0 l.builder.arena;
}

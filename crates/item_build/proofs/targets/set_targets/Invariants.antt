use Rattle.std.proofs.Common.{◌≡◌, length, take, drop}
use Rattle.std.specs.Prelude.{filter_map}
use Rattle.ir_syntax.specs.View.{items_view}
use Rattle.module_arena.specs.View.{module_of}
use Rattle.name_rules.specs.ModuleOf.{alias_in}
use Rattle.item_build.specs.Types.Declarations.{AreUntargeted}
use Rattle.item_build.specs.Completing.{with_targets}
use Rattle.item_build.proofs.targets.set_targets.Given as goal

abbrev pub invariant-items : goal.invariant-items
invariant-items l = record {
  joined : module_of l.builder.arena ≡ with_targets (module_of l.fn.builder.arena) (items_view (take l.item-index l.items)) (items_view (drop l.item-index l.items));
  number : l.number ≡ length (filter_map alias_in (items_view (take l.item-index l.items)));
  untargeted : AreUntargeted l.number l.builder.arena;
}

use Rattle.std.proofs.Common.{ℕ, List, ◌≤◌, ◌<◌, All, map, take, length}
use Rattle.type_table.specs.Types.{trees}
use Rattle.module_arena.specs.declared.entry.Parameter as the_parameter
use Rattle.module_arena.specs.Lists.{Lists}
use Rattle.module_arena.specs.Module.{Module}
use Rattle.module_arena.specs.View.{parameter_view}
use Rattle.link_rules.specs.Linked.{declared_parameters}
use Rattle.item_build.specs.Types.Parameters.{AreParameters}
use Rattle.module_linker.specs.Stages.Ground.{HasTypes}
use Rattle.module_linker.proofs.entries.parameters.numbered_parameters.Given as goal

abbrev pub invariant-places : goal.invariant-places
invariant-places l = record {
  upto : l.place ≤ length l.parameters;
  are : (ms : List Module) (i : ℕ) (a b : Lists) → HasTypes ms i a b l.copier → All (λ (p : the_parameter.Parameter). p.ty < length a.table.types) l.parameters
      → AreParameters b l.numbered (declared_parameters ms i 0 (map (parameter_view (trees a.table)) (take l.place l.parameters)));
}

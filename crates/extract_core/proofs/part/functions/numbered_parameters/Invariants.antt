use Rattle.std.proofs.Common.{◌≤◌, ◌<◌, All, map, take, length}
use Rattle.type_table.specs.Types.{trees}
use Rattle.module_arena.specs.Functions.{numbered_parameters}
use Rattle.module_arena.specs.Lists.{Lists}
use Rattle.module_arena.specs.View.{type_at}
use Rattle.item_build.specs.Types.Parameters.{AreParameters}
use Rattle.extract_core.specs.Declaring.Stages.{HasTypes}
use Rattle.extract_core.proofs.part.functions.numbered_parameters.Given as goal

abbrev pub invariant-parameters : goal.invariant-parameters
invariant-parameters l = record {
  upto : l.place ≤ length l.types;
  are : (a b : Lists) → HasTypes a b l.copier → All (λ id. id < length a.table.types) l.types → AreParameters b l.parameters (numbered_parameters 0 (map (type_at (trees a.table)) (take l.place l.types)));
}

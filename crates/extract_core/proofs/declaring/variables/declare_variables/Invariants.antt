use Rattle.std.proofs.Common.{◌≡◌, ◌≤◌, ◌++◌, map, take, length}
use Rattle.module_arena.specs.Functions.{variable_names}
use Rattle.module_arena.specs.View.{module_of}
use Rattle.item_build.specs.Types.Declarations.{without_initialiser}
use Rattle.extract_core.specs.Declaring.Declaring.{variables_through, IsDeclaring, AreNewIds}
use Rattle.extract_core.specs.Fates.Fates.{variable_as, made}
use Rattle.extract_core.specs.Declaring.Stages.{HasTypes, with_variables}
use Rattle.extract_core.proofs.declaring.variables.declare_variables.Given as goal

abbrev pub invariant-variables : goal.invariant-variables
invariant-variables l = record {
  upto : l.number ≤ length l.from.variables;
  joined : module_of l.into.arena ≡ with_variables (module_of l.fn.into.arena) ((module_of l.fn.into.arena).variables ++ map without_initialiser (made variable_as (take l.number l.fates) (take l.number (module_of l.from).variables)));
  types : HasTypes l.from l.into.arena l.copier;
  declaring : IsDeclaring l.from (variables_through l.number) l.into.arena;
  ids : AreNewIds l.into.arena (take l.number (variable_names (module_of l.from))) (take l.number l.fates) l.ids.items;
}

use Rattle.std.proofs.Common.{◌≡◌, ◌≤◌, ◌++◌, map, take, length}
use Rattle.module_arena.specs.Functions.{function_names}
use Rattle.module_arena.specs.View.{module_of}
use Rattle.item_build.specs.Types.Parameters.{without_body}
use Rattle.extract_core.specs.Declaring.Declaring.{IsDeclaring, KeepsNames, AreNewIds}
use Rattle.extract_core.specs.Declaring.Stages.{HasTypes}
use Rattle.extract_core.specs.Part.FunctionsThere.{functions_through, with_functions}
use Rattle.extract_core.specs.Fates.Fates.{function_as, made}
use Rattle.extract_core.proofs.part.functions.declare_functions.Given as goal

abbrev pub invariant-functions : goal.invariant-functions
invariant-functions l = record {
  upto : l.number ≤ length l.from.functions;
  joined : module_of l.into.arena ≡ with_functions (module_of l.fn.into.arena) ((module_of l.fn.into.arena).functions ++ map without_body (made function_as (take l.number l.fates) (take l.number (module_of l.from).functions)));
  types : HasTypes l.from l.into.arena l.copier;
  declaring : IsDeclaring l.from (functions_through l.from l.number) l.into.arena;
  keeps : KeepsNames l.fn.into.arena l.into.arena;
  ids : AreNewIds l.into.arena (take l.number (function_names (module_of l.from))) (take l.number l.fates) l.ids.items;
}

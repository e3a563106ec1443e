use Rattle.std.proofs.Common.{◌≡◌, ◌≤◌, ◌++◌, List, map, take, drop, length}
use Rattle.module_arena.specs.Module.{Function}
use Rattle.module_arena.specs.View.{module_of}
use Rattle.item_build.specs.Types.Parameters.{without_body}
use Rattle.extract_core.specs.Fates.Fates.{function_as, made}
use Rattle.extract_core.specs.Part.FunctionsThere.{with_functions}
use Rattle.extract_core.specs.Defining.Filling.{BeginWithFunctions, KeepsCopies}
use Rattle.extract_core.proofs.defining.defining.define_functions.Given as goal

abbrev pub invariant-functions : goal.invariant-functions
invariant-functions l = record {
  upto : l.number ≤ length l.from.functions;
  next : l.next ≡ length (made function_as (take l.number l.fates) (take l.number (module_of l.from).functions));
  before : l.next ≤ l.number;
  joined : (rest : List Function) → BeginWithFunctions l.fates (module_of l.from).functions rest (module_of l.fn.into.arena).functions
      → module_of l.into.arena ≡ with_functions (module_of l.fn.into.arena)
      (made function_as (take l.number l.fates) (take l.number (module_of l.from).functions)
      ++ (map without_body (made function_as (drop l.number l.fates) (drop l.number (module_of l.from).functions)) ++ rest));
  keeps : KeepsCopies l.fn.into.arena l.into.arena;
}

use Rattle.std.proofs.Common.{◌≡◌, ◌≤◌, ◌++◌, List, map, take, drop, length}
use Rattle.module_arena.specs.Module.{Variable}
use Rattle.module_arena.specs.View.{module_of}
use Rattle.item_build.specs.Types.Declarations.{without_initialiser}
use Rattle.extract_core.specs.Fates.Fates.{variable_as, made}
use Rattle.extract_core.specs.Declaring.Stages.{with_variables}
use Rattle.extract_core.specs.Defining.Filling.{BeginWithVariables, KeepsCopies}
use Rattle.extract_core.proofs.defining.initialising.initialise_variables.Given as goal

abbrev pub invariant-variables : goal.invariant-variables
invariant-variables l = record {
  upto : l.number ≤ length l.from.variables;
  next : l.next ≡ length (made variable_as (take l.number l.fates) (take l.number (module_of l.from).variables));
  before : l.next ≤ l.number;
  joined : (rest : List Variable) → BeginWithVariables l.fates (module_of l.from).variables rest (module_of l.fn.into.arena).variables
      → module_of l.into.arena ≡ with_variables (module_of l.fn.into.arena)
      (made variable_as (take l.number l.fates) (take l.number (module_of l.from).variables)
      ++ (map without_initialiser (made variable_as (drop l.number l.fates) (drop l.number (module_of l.from).variables)) ++ rest));
  keeps : KeepsCopies l.fn.into.arena l.into.arena;
}

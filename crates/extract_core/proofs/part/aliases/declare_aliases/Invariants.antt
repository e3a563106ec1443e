use Rattle.std.proofs.Common.{◌≡◌, ◌≤◌, take, length}
use Rattle.module_arena.specs.Functions.{alias_names}
use Rattle.module_arena.specs.View.{module_of}
use Rattle.extract_core.specs.Declaring.Declaring.{IsDeclaring, KeepsNames, AreNewIds}
use Rattle.extract_core.specs.Declaring.Stages.{HasTypes}
use Rattle.extract_core.specs.Part.AliasesThere.{with_declared, aliases_through}
use Rattle.extract_core.specs.Fates.Fates.{alias_as, alias_variable_as, alias_function_as, made}
use Rattle.extract_core.proofs.part.aliases.declare_aliases.Given as goal

abbrev pub invariant-aliases : goal.invariant-aliases
invariant-aliases l = record {
  upto : l.number ≤ length l.from.aliases;
  joined : module_of l.into.arena ≡ with_declared (module_of l.fn.into.arena)
      (made (alias_variable_as (module_of l.from)) (take l.number l.fates) (take l.number (module_of l.from).aliases))
      (made alias_as (take l.number l.fates) (take l.number (module_of l.from).aliases))
      (made alias_function_as (take l.number l.fates) (take l.number (module_of l.from).aliases));
  types : HasTypes l.from l.into.arena l.copier;
  declaring : IsDeclaring l.from (aliases_through l.from l.number) l.into.arena;
  keeps : KeepsNames l.fn.into.arena l.into.arena;
  ids : AreNewIds l.into.arena (take l.number (alias_names (module_of l.from))) (take l.number l.fates) l.ids.items;
}

-- For `declare_aliases`: the new arena once aliases are declared as what they become.
use Rattle.std.specs.Prelude.{◌≡◌, ℕ, ◌+◌, ◌++◌, List, map, length, slice_get, option_to_list, Option, Some}
use Rattle.module_arena.specs.declared.entry.GlobalId.{GlobalId}
use Rattle.module_arena.specs.declared.entry.GlobalId.TheVariants as global
use Rattle.module_arena.specs.Functions.{alias_names}
use Rattle.module_arena.specs.Known.{Counts}
use Rattle.module_arena.specs.Lists.{Lists, global_name}
use Rattle.module_arena.specs.Module.{Bytes, Variable, Alias, Function, Module}
use Rattle.module_arena.specs.View.{module_of}
use Rattle.item_build.specs.Types.Declarations.{without_initialiser, without_target}
use Rattle.item_build.specs.Types.Parameters.{without_body}
use Rattle.entry_copy.specs.Tables.{Tables}
use Rattle.extract_core.specs.declared.fates.fates.Fate.{Fate}
use Rattle.extract_core.specs.Declaring.Declaring.{IsDeclaring, KeepsNames, HasNewId, AreNewIds}
use Rattle.extract_core.specs.Declaring.Stages.{HasTypes}
use Rattle.extract_core.specs.Fates.Fates.{alias_as, alias_variable_as, alias_function_as, made}

-- all variables and functions, and so many of the aliases
abbrev pub aliases_through : Lists → ℕ → Counts
aliases_through a id = record { variables = length a.variables; aliases = id; functions = length a.functions }

-- more variables, aliases and functions, none of which is defined
abbrev pub with_declared : Module → List Variable → List Alias → List Function → Module
with_declared m variables aliases functions = record m {
  variables = m.variables ++ map without_initialiser variables;
  aliases = m.aliases ++ map without_target aliases;
  functions = m.functions ++ map without_body functions;
}

-- what an alias of the module m becomes, declared in another
abbrev pub with_alias_as : Module → Module → Fate → Alias → Module
with_alias_as m part fate x =
    with_declared part (option_to_list (alias_variable_as m fate x)) (option_to_list (alias_as fate x)) (option_to_list (alias_function_as fate x))

-- what all its aliases become
abbrev pub with_aliases_as : Module → Module → List Fate → Module
with_aliases_as m part fates =
    with_declared part (made (alias_variable_as m) fates m.aliases) (made alias_as fates m.aliases) (made alias_function_as fates m.aliases)

-- The alias with that number, the next, was declared by its fate, and has this new id.
pub record WithAlias (a : Lists) (t : Tables) (before : Lists) (number : ℕ) (fate : Fate) (now : Lists) (new : Option GlobalId) : Type 0 where
  pub joined : (x : Alias) → slice_get (module_of a).aliases number ≡ Some x → module_of now ≡ with_alias_as (module_of a) (module_of before) fate x
  pub types : HasTypes a now t
  pub declaring : IsDeclaring a (aliases_through a (number + 1)) now
  pub keeps : KeepsNames before now
  pub called : (name : Bytes) → global_name a (global.Alias number) ≡ Some name → HasNewId now name fate new

-- All aliases were declared by these fates, and have these new ids.
pub record WithAliases (a : Lists) (t : Tables) (before : Lists) (fates : List Fate) (now : Lists) (ids : List (Option GlobalId)) : Type 0 where
  pub joined : module_of now ≡ with_aliases_as (module_of a) (module_of before) fates
  pub types : HasTypes a now t
  pub declaring : IsDeclaring a (aliases_through a (length a.aliases)) now
  pub keeps : KeepsNames before now
  pub called : AreNewIds now (alias_names (module_of a)) fates ids

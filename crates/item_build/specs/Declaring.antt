-- For `declare_items`, `initialise_items` and `set_targets`: items that are declared in a module, one after the other, and what is asked for of each.
use Rattle.std.specs.Prelude.{◌≡◌, List, map, filter_map, length, Option, Some, None}
use Rattle.ir_terminals.specs.declared.values.PlacedName.{PlacedName}
use Rattle.ir_syntax.specs.Tree.{ItemTree, Variable, Alias, Declaration, Definition}
use Rattle.module_arena.specs.Changes.{more_variables, more_aliases, more_functions}
use Rattle.module_arena.specs.Known.{Counts}
use Rattle.module_arena.specs.Lists.{Lists}
use Rattle.module_arena.specs.Module as m
use Rattle.module_arena.specs.Module.{Module}
use Rattle.module_arena.specs.WellFormed.{global_names}
use Rattle.name_rules.specs.ModuleOf.{variable_of, variable_in, alias_of, alias_in, declared, defined, function_in, module_of_items}
use Rattle.item_build.specs.Types.Declarations.{IsFree, AreFew, one_variable_more, one_alias_more, one_function_more, without_initialiser, without_target}
use Rattle.item_build.specs.Types.Parameters.{without_body}

-- the item as it is declared: without its initialiser, its target or its blocks
abbrev pub declared_in : Module → ItemTree → Module
declared_in m (Variable variable) = more_variables m (without_initialiser (variable_of variable))
declared_in m (Alias alias) = more_aliases m (without_target (alias_of alias))
declared_in m (Declaration place head parameters variadic) = more_functions m (declared head parameters variadic)
declared_in m (Definition place head parameters blocks) = more_functions m (without_body (defined head parameters blocks))
declared_in m _ = m

-- the variables, aliases and functions of a text as they are declared
abbrev pub declared_variables : List ItemTree → List m.Variable
declared_variables items = map without_initialiser (filter_map variable_in items)

-- the aliases that items declare
abbrev pub declared_aliases : List ItemTree → List m.Alias
declared_aliases items = map without_target (filter_map alias_in items)

-- the functions that items declare
abbrev pub declared_functions : List ItemTree → List m.Function
declared_functions items = map without_body (filter_map function_in items)

-- a module with these entries
abbrev pub with_entries : Module → List m.Variable → List m.Alias → List m.Function → Module
with_entries m variables aliases functions = record m { variables = variables; aliases = aliases; functions = functions }

-- the module with the entries of a text as they are declared
abbrev pub with_declared : Module → List ItemTree → Module
with_declared m items = with_entries m (declared_variables items) (declared_aliases items) (declared_functions items)

-- no entry has this name, where one is told
abbrev pub IsNewName : Lists → Option PlacedName → Type 0
IsNewName a None = Unit {0}
IsNewName a (Some name) = IsFree a name.name

-- there may be so many entries with the one of the item
abbrev pub HasRoom : Lists → ItemTree → Type 0
HasRoom a (Variable variable) = AreFew (one_variable_more a)
HasRoom a (Alias alias) = AreFew (one_alias_more a)
HasRoom a (Declaration place head parameters variadic) = AreFew (one_function_more a)
HasRoom a (Definition place head parameters blocks) = AreFew (one_function_more a)
HasRoom a _ = Unit {0}

-- how many variables, aliases and functions a text has
abbrev pub counts_in : List ItemTree → Counts
counts_in items = record {
  variables = length (filter_map variable_in items);
  aliases = length (filter_map alias_in items);
  functions = length (filter_map function_in items);
}

-- the entries of the module are called as those of the items
abbrev pub AreNamed : Module → List ItemTree → Type 0
AreNamed m items = global_names m ≡ global_names (module_of_items items)

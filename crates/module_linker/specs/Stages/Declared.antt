-- For `declare_symbols`: the linked module while its entries are declared, none of which is defined yet.
use Rattle.std.specs.Prelude.{ℕ, ◌+◌, List, [], ◌∷◌, ◌++◌, filter_map, map}
use Rattle.linkage_rules.specs.Globals.{Global, OfVariable, OfFunction, OfAlias}
use Rattle.module_arena.specs.Changes.{more_variables, more_aliases, more_functions}
use Rattle.module_arena.specs.Module.{Module}
use Rattle.module_arena.specs.declared.entry.GlobalId.{GlobalId}
use Rattle.module_arena.specs.declared.entry.GlobalId.TheVariants as global
use Rattle.link_rules.specs.Linked.{variable_if, function_if, alias_if, linked_globals}
use Rattle.item_build.specs.Types.Declarations.{without_initialiser, without_target}
use Rattle.item_build.specs.Types.Parameters.{without_body}
use Rattle.module_linker.specs.Stages.Ground.{ground}

-- an entry as it is declared: without its initialiser, its body or its target
abbrev pub bare : Global → Global
bare (OfVariable v) = OfVariable (without_initialiser v)
bare (OfFunction f) = OfFunction (without_body f)
bare (OfAlias a) = OfAlias (without_target a)

-- one entry more, behind those of its kind
abbrev pub with_global : Module → Global → Module
with_global m (OfVariable v) = more_variables m v
with_global m (OfFunction f) = more_functions m f
with_global m (OfAlias a) = more_aliases m a

-- these entries more, of each kind in their order
abbrev pub with_globals : Module → List Global → Module
with_globals m gs = record m {
  variables = m.variables ++ filter_map variable_if gs;
  aliases = m.aliases ++ filter_map alias_if gs;
  functions = m.functions ++ filter_map function_if gs;
}

-- the linked module before anything is defined in it
abbrev pub declared : List Module → Module
declared parts = with_globals (ground parts) (map bare (linked_globals parts))

-- the ids of entries that are declared in this order, where so many variables, functions and aliases stand before them
abbrev pub ids_from : ℕ → ℕ → ℕ → List Global → List GlobalId
ids_from v f a [] = []
ids_from v f a (OfVariable _ ∷ gs) = global.Variable v ∷ ids_from (v + 1) f a gs
ids_from v f a (OfFunction _ ∷ gs) = global.Function f ∷ ids_from v (f + 1) a gs
ids_from v f a (OfAlias _ ∷ gs) = global.Alias a ∷ ids_from v f (a + 1) gs

-- those of all entries of the linked module
abbrev pub ids_of : List Module → List GlobalId
ids_of parts = ids_from 0 0 0 (linked_globals parts)

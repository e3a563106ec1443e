-- Says how the code of `missing_name` reads: the names that the definitions of a module use, and those that mean nothing.
use Rattle.std.specs.Prelude.{◌≡◌, Bool, true, not, ◌&&◌, is_some, List, [], ◌∷◌, ◌++◌, filter, flat_map, map}
use Rattle.extract_rules.specs.declared.flags.EntryFlags.{EntryFlags}
use Rattle.extract_rules.specs.Selected.{is_among}
use Rattle.linkage_rules.specs.Linkages.{is_available_externally}
use Rattle.module_arena.specs.Lists.{Lists}
use Rattle.module_arena.specs.Module.{Bytes, Variable, Function, Module}
use Rattle.module_arena.specs.UsedNames.{names_in_variable, names_in_function}
use Rattle.run_names.specs.Spots.{is_defined}
use Rattle.run_names.specs.Standings.{has_code}
use Rattle.run_rules.specs.Host.{is_poison}
use Rattle.run_rules.specs.Look.{address_in}

-- the entries of an arena that are defined; aliases are
pub record AreDefinitions (a : Lists) (flags : EntryFlags) : Type 0 where
  pub variables : flags.variables ≡ map is_defined a.variables
  pub functions : flags.functions ≡ map has_code a.functions
  pub aliases : flags.aliases ≡ map (λ x. true) a.aliases

-- a variable has an initialiser that counts
abbrev pub is_variable_defined : Variable → Bool
is_variable_defined v = is_some v.initialiser && not (is_available_externally v.linkage)

-- a function has a body that counts
abbrev pub is_function_defined : Function → Bool
is_function_defined f = is_some f.body && not (is_available_externally f.linkage)

-- the names in the initialisers and bodies that count
abbrev pub used_names : Module → List Bytes
used_names m = flat_map names_in_variable (filter is_variable_defined m.variables) ++ flat_map names_in_function (filter is_function_defined m.functions)

-- the entries of which the name is used
pub record AreUsed (m : Module) (flags : EntryFlags) : Type 0 where
  pub variables : flags.variables ≡ map (λ v. is_among (used_names m) v.name) m.variables
  pub functions : flags.functions ≡ map (λ f. is_among (used_names m) f.name) m.functions

-- a name that means nothing, whose address is poison, is used
abbrev pub is_lacking : Module → Bytes → Bool
is_lacking m name = is_poison (address_in (m ∷ []) 0 name) && is_among (used_names m) name

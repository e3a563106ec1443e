-- For `initialise_items` and `set_targets`: items that complete the entries of a module, one after the other.
use Rattle.std.specs.Prelude.{ℕ, ◌+◌, List, ◌++◌, filter_map, length, Option, Some, None, option_to_list}
use Rattle.ir_phrases.specs.Constants.Tree.{ConstantTree}
use Rattle.ir_syntax.specs.Tree.{ItemTree, Variable, Alias}
use Rattle.type_table.specs.Tree.{Tree}
use Rattle.module_arena.specs.Changes.{initialised, targeted}
use Rattle.module_arena.specs.Module.{Module}
use Rattle.name_rules.specs.ModuleOf.{variable_in, alias_in}
use Rattle.name_rules.specs.Written.{type_in, constant_in}
use Rattle.item_build.specs.Declaring.{declared_variables, declared_aliases}

-- the alias with that number gets the target of the item
abbrev pub targeted_in : Module → ℕ → ItemTree → Module
targeted_in m id (Alias alias) = targeted m id alias.target.name
targeted_in m id _ = m

-- the variable with that number gets the initialiser, where one is written
abbrev pub initialised_by : Module → ℕ → Tree → Option ConstantTree → Module
initialised_by m id ty None = m
initialised_by m id ty (Some constant) = initialised m id (constant_in ty constant)

-- the variable with that number gets the initialiser of the item
abbrev pub initialised_in : Module → ℕ → ItemTree → Module
initialised_in m id (Variable variable) = initialised_by m id (type_in variable.ty) variable.initialiser
initialised_in m id _ = m

-- the number behind those of the aliases, where the item may be one
abbrev pub alias_behind : ℕ → ItemTree → ℕ
alias_behind id item = id + length (option_to_list (alias_in item))

-- the number behind those of the variables
abbrev pub variable_behind : ℕ → ItemTree → ℕ
variable_behind id item = id + length (option_to_list (variable_in item))

-- the module whose aliases have targets as far as the first items go
abbrev pub with_targets : Module → List ItemTree → List ItemTree → Module
with_targets m first more = record m { aliases = filter_map alias_in first ++ declared_aliases more }

-- the module whose variables have initialisers as far as the first items go
abbrev pub with_initialisers : Module → List ItemTree → List ItemTree → Module
with_initialisers m first more = record m { variables = filter_map variable_in first ++ declared_variables more }

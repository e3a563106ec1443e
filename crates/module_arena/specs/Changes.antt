-- For the calls of `Arena` that change it: what each promises: one entry more, or one entry set.
use Rattle.std.specs.Prelude.{ℕ, List, [], ◌∷◌, ◌++◌, set, map, Option, Some, slice_get}
use Rattle.std.specs.Option.{option_map_or}
use Rattle.type_table.specs.Tree.{TreeBody, opaque_body}
use Rattle.type_table.specs.Types.{Types, trees}
use Rattle.module_arena.specs.declared.constant.Const.{Const}
use Rattle.module_arena.specs.declared.entry.GlobalId.{GlobalId}
use Rattle.module_arena.specs.declared.entry.Variable as the_variable
use Rattle.module_arena.specs.declared.entry.Alias as the_alias
use Rattle.module_arena.specs.declared.entry.Body.{Body}
use Rattle.module_arena.specs.declared.entry.Function as the_function
use Rattle.module_arena.specs.Lists.{Lists, name_at}
use Rattle.module_arena.specs.Module.{Bytes, Constant, Variable, Alias, Function, Block, Module}
use Rattle.module_arena.specs.View.{constants_of, constant_view, variable_view, alias_view, function_view, body_view}

-- the list with the item at that index changed
abbrev pub changed_at : {A : Type 0} → List A → ℕ → (A → A) → List A
changed_at xs i change = option_map_or (λ x. set xs i (change x)) (slice_get xs i) xs

-- ---- the lists

-- with the three texts of the module
abbrev pub with_texts : Lists → Option Bytes → Option Bytes → Option Bytes → Lists
with_texts a source layout triple = record a { source = source; layout = layout; triple = triple }

-- with another table of types
abbrev pub with_table : Lists → Types → Lists
with_table a table = record a { table = table }

-- one constant more
abbrev pub with_constant : Lists → Const → Lists
with_constant a c = record a { constants = a.constants ++ c ∷ [] }

-- one variable more
abbrev pub with_variable : Lists → the_variable.Variable → Lists
with_variable a v = record a { variables = a.variables ++ v ∷ [] }

-- one alias more
abbrev pub with_alias : Lists → the_alias.Alias → Lists
with_alias a x = record a { aliases = a.aliases ++ x ∷ [] }

-- one function more
abbrev pub with_function : Lists → the_function.Function → Lists
with_function a f = record a { functions = a.functions ++ f ∷ [] }

-- the variable has this initialiser
abbrev pub with_initialiser : Lists → ℕ → ℕ → Lists
with_initialiser a id c = record a { variables = changed_at a.variables id (λ v. record v { initialiser = Some c }) }

-- the alias has this target
abbrev pub with_target : Lists → ℕ → GlobalId → Lists
with_target a id g = record a { aliases = changed_at a.aliases id (λ x. record x { target = Some g }) }

-- the function has this body
abbrev pub with_body : Lists → ℕ → Body → Lists
with_body a id body = record a { functions = changed_at a.functions id (λ f. record f { body = Some body }) }

-- ---- what an entry is in the module of the lists

-- what a constant is
abbrev pub constant_in : Lists → Const → Constant
constant_in a c = constant_view (trees a.table) (name_at a) (constants_of a) c

-- what a variable is
abbrev pub variable_in : Lists → the_variable.Variable → Variable
variable_in a v = variable_view (trees a.table) (constants_of a) v

-- what an alias is
abbrev pub alias_in : Lists → the_alias.Alias → Alias
alias_in a x = alias_view (trees a.table) (name_at a) x

-- what a function is
abbrev pub function_in : Lists → the_function.Function → Function
function_in a f = function_view (trees a.table) (constants_of a) f

-- ---- the module

-- one variable more
abbrev pub more_variables : Module → Variable → Module
more_variables m v = record m { variables = m.variables ++ v ∷ [] }

-- one alias more
abbrev pub more_aliases : Module → Alias → Module
more_aliases m x = record m { aliases = m.aliases ++ x ∷ [] }

-- one function more
abbrev pub more_functions : Module → Function → Module
more_functions m f = record m { functions = m.functions ++ f ∷ [] }

-- one struct more, of which nothing is known
abbrev pub more_structs : Module → Bytes → Module
more_structs m name = record m { structs = m.structs ++ (name, opaque_body) ∷ [] }

-- a struct gets its fields
abbrev pub struct_defined : Module → ℕ → TreeBody → Module
struct_defined m id body = record m { structs = changed_at m.structs id (λ s. (s.0, body)) }

-- a variable gets its initialiser, an alias its target, a function its blocks
abbrev pub initialised : Module → ℕ → Constant → Module
initialised m id c = record m { variables = changed_at m.variables id (λ v. record v { initialiser = Some c }) }

-- the alias has this target
abbrev pub targeted : Module → ℕ → Bytes → Module
targeted m id name = record m { aliases = changed_at m.aliases id (λ x. record x { target = name }) }

-- the function has these blocks
abbrev pub defined : Module → ℕ → (Function → List Block) → Module
defined m id blocks = record m { functions = changed_at m.functions id (λ f. record f { body = Some (blocks f) }) }

-- the blocks of a body, in the function that gets it
abbrev pub blocks_in : Lists → Body → Function → List Block
blocks_in a body f = body_view (trees a.table) (constants_of a) (map (λ p. p.name) f.parameters) body

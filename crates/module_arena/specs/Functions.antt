-- For `Checked::seal`: what a function has: blocks, values with their types, edges, and how large it is.
use Rattle.std.specs.Prelude.{ℕ, suc, ◌+◌, ◌*◌, Bool, nat_lt, List, [], ◌∷◌, ◌++◌, map, length, find, flat_map, sum_by, count_by, Option, Some, None, is_some, option_to_list}
use Rattle.type_table.specs.Tree.{Tree, Structs}
use Rattle.module_arena.specs.declared.entry.TheConstants.{LARGEST_PRODUCT}
use Rattle.module_arena.specs.Module.{Bytes, LocalName, Numbered, Instruction, Block, Parameter, Function, Module}
use Rattle.module_arena.specs.Same.{same_local}
use Rattle.module_arena.specs.Operations.{result_type}

-- the blocks of a body
abbrev pub body : Option (List Block) → List Block
body None = []
body (Some blocks) = blocks

-- the blocks of a function; a declaration has none
abbrev pub blocks : Function → List Block
blocks f = body f.body

-- the name of the result, where there is one
abbrev pub result_name : Instruction → List LocalName
result_name i = option_to_list i.result

-- parameters of these types with the numbers from n on as names
abbrev pub numbered_parameters : ℕ → List Tree → List Parameter
numbered_parameters n [] = []
numbered_parameters n (t ∷ ts) = record { ty = t; name = Numbered n } ∷ numbered_parameters (suc n) ts

-- a parameter or result: its name and, where there is one, its type
abbrev pub Definition : Type 0
Definition = LocalName × Option Tree

-- what a parameter defines
abbrev pub parameter_definition : Parameter → Definition
parameter_definition p = (p.name, Some p.ty)

-- what an instruction defines
abbrev pub result_definitions : Structs → Instruction → List Definition
result_definitions structs i = map (λ name. (name, result_type structs i.operation)) (result_name i)

-- all parameters, then all results in the order of the blocks
abbrev pub definitions : Structs → Function → List Definition
definitions structs f = map parameter_definition f.parameters ++ flat_map (λ block. flat_map (result_definitions structs) block.instructions) (blocks f)

-- the type of what is defined
abbrev pub definition_type : Option Definition → Option Tree
definition_type None = None
definition_type (Some d) = d.1

-- the type of a parameter or result
abbrev pub local_type : Structs → Function → LocalName → Option Tree
local_type structs f name = definition_type (find (λ d. same_local d.0 name) (definitions structs f))

-- how many parameters and results a function has
abbrev pub value_count : Function → ℕ
value_count f = length f.parameters + sum_by (λ block. count_by (λ i. is_some i.result) block.instructions) (blocks f)

-- the greatest product of blocks and values of a function
abbrev pub largest_product : ℕ
largest_product = LARGEST_PRODUCT

-- blocks times values
abbrev pub product : Function → ℕ
product f = length (blocks f) * value_count f

-- blocks times values pass the greatest product
abbrev pub is_too_large : Function → Bool
is_too_large f = nat_lt largest_product (product f)

-- the first function that is too large
abbrev pub first_too_large : Module → Option Function
first_too_large m = find is_too_large m.functions

-- the names of the variables
abbrev pub variable_names : Module → List Bytes
variable_names m = map (λ v. v.name) m.variables

-- the names of the aliases
abbrev pub alias_names : Module → List Bytes
alias_names m = map (λ a. a.name) m.aliases

-- the names of the functions
abbrev pub function_names : Module → List Bytes
function_names m = map (λ f. f.name) m.functions

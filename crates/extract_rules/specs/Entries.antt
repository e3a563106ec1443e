-- Says how the code of `no_such_symbol` and `choose` reads: what is told of an entry by its id.
use Rattle.std.specs.Prelude.{Bool, true, false, is_some, slice_get, []}
use Rattle.std.specs.Option.{option_map_or}
use Rattle.module_arena.specs.declared.entry.GlobalId.{GlobalId}
use Rattle.module_arena.specs.declared.entry.GlobalId.TheVariants as global
use Rattle.module_arena.specs.Lists.{Lists, name_at}
use Rattle.module_arena.specs.Module.{Bytes}

-- a function with a body
abbrev pub is_function_with_body : Lists → GlobalId → Bool
is_function_with_body a (global.Function id) = option_map_or (λ f. is_some f.body) (slice_get a.functions id) false
is_function_with_body a (global.Variable id) = false
is_function_with_body a (global.Alias id) = false

-- a variable with an initialiser
abbrev pub is_variable_with_initialiser : Lists → GlobalId → Bool
is_variable_with_initialiser a (global.Variable id) = option_map_or (λ v. is_some v.initialiser) (slice_get a.variables id) false
is_variable_with_initialiser a (global.Function id) = false
is_variable_with_initialiser a (global.Alias id) = false

-- an alias
abbrev pub is_alias : GlobalId → Bool
is_alias (global.Alias id) = true
is_alias (global.Variable id) = false
is_alias (global.Function id) = false

-- the name of the target of an alias, and of any other entry its own
abbrev pub target_or_own : Lists → GlobalId → Bytes
target_or_own a (global.Alias id) = option_map_or (λ x. option_map_or (name_at a) x.target []) (slice_get a.aliases id) []
target_or_own a (global.Variable id) = name_at a (global.Variable id)
target_or_own a (global.Function id) = name_at a (global.Function id)

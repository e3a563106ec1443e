-- For `main_of`: the function that a run of one module begins with, by its number.
use Rattle.std.specs.Prelude.{ℕ, Bool, true, false, not, ◌&&◌, List, [], ◌∷◌, Option, Some, None, slice_get, option_and_then, if◌then◌else◌}
use Rattle.std.specs.Option.{option_map, option_map_or}
use Rattle.type_table.specs.Types.{Types, tree}
use Rattle.module_arena.specs.TypeTests.{is_integer_of, is_pointer}
use Rattle.module_arena.specs.declared.entry.Alias.{Alias}
use Rattle.module_arena.specs.declared.entry.Function.{Function}
use Rattle.module_arena.specs.declared.entry.GlobalId.{GlobalId}
use Rattle.module_arena.specs.declared.entry.GlobalId.TheVariants as global
use Rattle.module_arena.specs.declared.entry.Parameter.{Parameter}
use Rattle.module_arena.specs.Lists.{Lists}
use Rattle.linkage_rules.specs.Linkages.{is_local}
use Rattle.linkage_rules.specs.Addresses.{function_address}
use Rattle.run_rules.specs.Plan as plans
use Rattle.run_names.specs.Standings.{has_code}
use Rattle.run_names.specs.declared.entry.main_function.MainFunction.{MainFunction}

-- what is meant by what is told of main
abbrev pub main_seen : MainFunction → plans.Main
main_seen m = record { address = m.address; takes_arguments = m.takes_arguments }

-- whether parameters are the count of words and their array; none where they are another list than that or none
abbrev pub words_in : Types → List Parameter → Option Bool
words_in types [] = Some false
words_in types (count ∷ []) = None
words_in types (count ∷ words ∷ []) = if is_integer_of 32 (tree types count.ty) && is_pointer (tree types words.ty) then Some true else None
words_in types (count ∷ words ∷ more ∷ others) = None

-- the same of a function, which is to return an i32 and not to be variadic
abbrev pub words_of : Types → Function → Option Bool
words_of types f = if not f.variadic && is_integer_of 32 (tree types f.result) then words_in types f.parameters else None

-- the same of a function by its number
abbrev pub takes_words : Lists → ℕ → Option Bool
takes_words a id = option_and_then (words_of a.table) (slice_get a.functions id)

-- the function with that number as main, where it has a body that counts
abbrev pub main_by_number : Lists → ℕ → Option plans.Main
main_by_number a id =
    if option_map_or has_code (slice_get a.functions id) false
    then option_map {U = plans.Main} (λ takes. record { address = function_address id; takes_arguments = takes }) (takes_words a id) else None

-- the function behind a target
abbrev pub function_among : Option GlobalId → Option ℕ
function_among (Some (global.Function id)) = Some id
function_among (Some (global.Variable id)) = None
function_among (Some (global.Alias id)) = None
function_among None = None

-- a function, unless its name is local
abbrev pub unless_local : ℕ → Function → Option ℕ
unless_local id f = if is_local f.linkage then None else Some id

-- the function behind an alias, unless the alias is local
abbrev pub behind_alias : Alias → Option ℕ
behind_alias x = if is_local x.linkage then None else function_among x.target

-- the function that a global is, itself or as an alias, where its name is not local
abbrev pub shared_function : Lists → GlobalId → Option ℕ
shared_function a (global.Variable id) = None
shared_function a (global.Function id) = option_and_then (unless_local id) (slice_get a.functions id)
shared_function a (global.Alias id) = option_and_then behind_alias (slice_get a.aliases id)

-- For `no_such_symbol`, `add_name`, `choosing_ends`, `choose` and `extract`: which definitions of a module are chosen, and which are kept.
use Rattle.std.specs.Prelude.{ℕ, zero, suc, Bool, not, ◌&&◌, List, [], ◌∷◌, ◌++◌, map, filter_map, flat_map, length, find, Option, Some, None, is_some, bytes_eq, if◌then◌else◌}
use Rattle.std.specs.List.{list_any}
use Rattle.std.specs.Option.{option_or, option_map_or}
use Rattle.module_arena.specs.Module.{Bytes, Constant, Address, Value, Local, Known, Operation, Block, Variable, Alias, Function, Module}
use Rattle.module_arena.specs.Operations.{callee}
use Rattle.extract_rules.specs.declared.selection.Selection.{Selection}

-- the name is one of these
abbrev pub is_among : List Bytes → Bytes → Bool
is_among names name = list_any (bytes_eq name) names

-- ---- what is selected is there

-- an entry with an initialiser or a body is a definition, whatever its linkage
abbrev pub defines_variable : Module → Bytes → Bool
defines_variable m name = list_any (λ v. bytes_eq name v.name && is_some v.initialiser) m.variables

-- the same of a function
abbrev pub defines_function : Module → Bytes → Bool
defines_function m name = list_any (λ f. bytes_eq name f.name && is_some f.body) m.functions

-- an alias is a definition
abbrev pub defines_alias : Module → Bytes → Bool
defines_alias m name = list_any (λ a. bytes_eq name a.name) m.aliases

-- the first name that no definition of its kind has
abbrev pub first_missing : (Bytes → Bool) → List Bytes → Option Bytes
first_missing defined names = find (λ name. not (defined name)) names

-- the name that is told: functions first, then variables, then aliases
abbrev pub no_such_symbol : Module → Selection → Option Bytes
no_such_symbol m s =
    option_or (first_missing (defines_function m) s.functions)
    (option_or (first_missing (defines_variable m) s.variables) (first_missing (defines_alias m) s.aliases))

-- ---- what is chosen

-- the target of the alias of that name, or the name itself
abbrev pub behind : Module → Bytes → Bytes
behind m name = option_map_or (λ a. a.target) (find (λ a. bytes_eq name a.name) m.aliases) name

-- the entry that is written as a value, and not only named within one
abbrev pub written_in_constant : Constant → List Bytes
written_in_constant (Address name) = name ∷ []
written_in_constant constant = []

-- the same of a value
abbrev pub written_in : Value → List Bytes
written_in (Local name) = []
written_in (Known constant) = written_in_constant constant

-- the name that is written as the callee of a call; nothing else has a callee
abbrev pub callee_names : Operation → List Bytes
callee_names operation = option_map_or written_in (callee operation) []

-- the callees in a block
abbrev pub callees_in_block : Block → List Bytes
callees_in_block b = flat_map (λ i. callee_names i.operation) b.instructions

-- the names that are written as callees in the body
abbrev pub callees_of : Function → List Bytes
callees_of f = option_map_or (flat_map callees_in_block) f.body []

-- what the bodies of the functions of these names call, by its own name or by an alias
abbrev pub called_by : Module → List Bytes → List Bytes
called_by m names = flat_map (λ f. if is_among names f.name then map (behind m) (callees_of f) else []) m.functions

-- the defined functions of these names, and those that they call
abbrev pub with_called : Module → List Bytes → List Bytes
with_called m names = filter_map (λ f. if is_some f.body && is_among (names ++ called_by m names) f.name then Some f.name else None) m.functions

-- a step, so many times
abbrev pub times : ℕ → (List Bytes → List Bytes) → List Bytes → List Bytes
times zero step names = names
times (suc n) step names = times n step (step names)

-- what is selected; a definition and its aliases are chosen together, so an alias stands for its target
abbrev pub selected : Module → Selection → List Bytes
selected m s = s.functions ++ s.variables ++ map (behind m) s.aliases

-- With `recursive` also what chosen functions call, repeatedly. Each time adds a function or nothing, and where it adds
-- nothing no later one does, so as many times as there are functions are enough (`TimesAreEnough`)
abbrev pub chosen : Module → Selection → List Bytes
chosen m s = if s.recursive then selected m s ++ times (length m.functions) (with_called m) (selected m s) else selected m s

-- ---- what is kept

-- with `delete` all others are kept
abbrev pub keeps : Module → Selection → Bytes → Bool
keeps m s name = if s.delete then not (is_among (chosen m s) name) else is_among (chosen m s) name

-- the definition is kept
abbrev pub keeps_variable : Module → Selection → Variable → Bool
keeps_variable m s v = is_some v.initialiser && keeps m s v.name

-- the same of a function
abbrev pub keeps_function : Module → Selection → Function → Bool
keeps_function m s f = is_some f.body && keeps m s f.name

-- an alias is kept where its target is
abbrev pub keeps_alias : Module → Selection → Alias → Bool
keeps_alias m s a = keeps m s a.target

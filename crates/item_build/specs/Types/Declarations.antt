-- For `declare_variable`, `declare_function`, `declare_definition` and `declare_alias`: what is asked for where an
-- entry is declared, and what is declared of it.
use Rattle.std.specs.Prelude.{◌≡◌, ℕ, ◌<◌, ◌≤◌, ◌+◌, List, [], length, slice_get, All, Option, Some, None}
use Rattle.ir_terminals.specs.declared.values.Integer.{Integer}
use Rattle.ir_syntax.specs.Tree.{AliasTypeTree, PlainAlias, FunctionAlias}
use Rattle.type_table.specs.Tree.{Structs}
use Rattle.module_arena.specs.declared.arena.TheConstants.{INDEX_LIMIT}
use Rattle.module_arena.specs.declared.entry.Alias as the_alias
use Rattle.module_arena.specs.declared.entry.GlobalId.{GlobalId}
use Rattle.module_arena.specs.Lists.{Lists, global_name}
use Rattle.module_arena.specs.Known.{Counts, counts, first_excess}
use Rattle.module_arena.specs.Module.{Variable, Alias}
use Rattle.name_rules.specs.Written.{natural, type_in}
use Rattle.item_build.specs.Types.Fitting.{CanBe}

-- no entry has the name
abbrev pub IsFree : Lists → List ℕ → Type 0
IsFree a name = (g : GlobalId) → global_name a g ≡ Some name → ⊥

-- there may be so many
abbrev pub AreFew : Counts → Type 0
AreFew n = first_excess n ≡ None

-- the counts with one more variable, alias or function
abbrev pub one_variable_more : Lists → Counts
one_variable_more a = record (counts a) { variables = length a.variables + 1 }

-- the counts with one alias more
abbrev pub one_alias_more : Lists → Counts
one_alias_more a = record (counts a) { aliases = length a.aliases + 1 }

-- the counts with one function more
abbrev pub one_function_more : Lists → Counts
one_function_more a = record (counts a) { functions = length a.functions + 1 }

-- an alignment has at most 32 bits
abbrev pub IsShort : Option Integer → Type 0
IsShort None = Unit {0}
IsShort (Some written) = natural written < INDEX_LIMIT

-- the variable as it is declared
abbrev pub without_initialiser : Variable → Variable
without_initialiser v = record v { initialiser = None }

-- the alias as it is declared
abbrev pub without_target : Alias → Alias
without_target x = record x { target = [] }

-- the types that an alias writes are within the limits
abbrev pub CanAlias : Structs → AliasTypeTree → Type 0
CanAlias structs (PlainAlias ty) = CanBe structs (type_in ty)
CanAlias structs (FunctionAlias returns parameters variadic) = CanBe structs (type_in returns) × All (λ t. CanBe structs (type_in t)) parameters

-- no alias from that number on has a target yet
abbrev pub AreUntargeted : ℕ → Lists → Type 0
AreUntargeted first a = (id : ℕ) (x : the_alias.Alias) → first ≤ id → slice_get a.aliases id ≡ Some x → x.target ≡ None

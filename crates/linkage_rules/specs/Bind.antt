-- For `bind_names`, `symbol_behind` and `equal_look_ups_give_equal_runs`: what a name means in a part.
use Rattle.std.specs.Prelude.{ℕ, Bool, not, ◌&&◌, List, Option, Some, None, is_some, if◌then◌else◌}
use Rattle.std.specs.List.{list_all}
use Rattle.std.specs.Option.{option_map_or}
use Rattle.std.specs.Prelude.{false}
use Rattle.module_arena.specs.Module.{Bytes, Module}
use Rattle.linkage_rules.specs.Globals.{Global, OfVariable, OfFunction, OfAlias, linkage_of, is_variable}
use Rattle.linkage_rules.specs.Linkages.{is_appending, is_extern_weak}
use Rattle.linkage_rules.specs.Lists.{first}
use Rattle.module_arena.specs.HostRows.{host_row}
use Rattle.linkage_rules.specs.Entries.{Entry, Symbol, Shared, Local, symbol_in, entries_of}
use Rattle.linkage_rules.specs.Winner.{home}

-- what a name can mean
pub data Bound : Type 0 where
  -- that entry's initialiser or body
  Definition : (entry : Entry) → Bound
  -- one array of the elements of all parts
  Appended : (symbol : Symbol) → Bound
  Host : (name : Bytes) → Bound
  Null : Bound
  Unresolved : Bound

-- whether each part that has the symbol can do without it
abbrev pub all_extern_weak : List Module → Symbol → Bool
all_extern_weak parts s = list_all (λ e. is_extern_weak (linkage_of e.global)) (entries_of parts s)

-- whether the symbol's first entry is a function
abbrev pub is_function_symbol : List Module → Symbol → Bool
is_function_symbol parts s = option_map_or (λ e. not (is_variable e.global)) (first (entries_of parts s)) false

-- what a symbol means that no part defines
abbrev pub undefined : List Module → Symbol → Bound
undefined parts (Shared name) =
    if is_function_symbol parts (Shared name) && is_some (host_row name) then Host name else (if all_extern_weak parts (Shared name) then Null else Unresolved)
undefined parts (Local i name) = Unresolved

-- what a symbol means, from where it is defined
abbrev pub bound_to : List Module → Symbol → Option Entry → Bound
bound_to parts s (Some e) = if is_appending (linkage_of e.global) then Appended s else Definition e
bound_to parts s None = undefined parts s

-- the target of an alias of part i, and any other symbol itself
abbrev pub target_of : List Module → Symbol → ℕ → Global → Symbol
target_of parts s i (OfAlias a) = symbol_in parts i a.target
target_of parts s i (OfVariable v) = s
target_of parts s i (OfFunction f) = s

-- the same, from where a symbol is defined
abbrev pub behind_from : List Module → Symbol → Option Entry → Symbol
behind_from parts s (Some e) = target_of parts s e.part e.global
behind_from parts s None = s

-- The symbol that a symbol stands for. An alias's target is no alias and its part's own definition, local or external; where no
-- two entries are in conflict that definition is the target's home, and so what it means in every part
abbrev pub behind : List Module → Symbol → Symbol
behind parts s = behind_from parts s (home parts s)

-- what a symbol means that is no alias
abbrev pub own_meaning : List Module → Symbol → Bound
own_meaning parts s = bound_to parts s (home parts s)

-- what a symbol means: an alias, what is behind it
abbrev pub meaning : List Module → Symbol → Bound
meaning parts s = own_meaning parts (behind parts s)

-- what a name means in part i
abbrev pub bind : List Module → ℕ → Bytes → Bound
bind parts i name = meaning parts (symbol_in parts i name)

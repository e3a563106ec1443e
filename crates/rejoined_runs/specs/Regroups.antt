-- For `two_goes_link_as_one`: what the first of some parts become where they are linked to one.
-- Each symbol is carried over, in order,
-- with its definition and its meaning, and so is what each part writes.
use Rattle.std.specs.Prelude.{◌≡◌, ℕ, suc, ◌-◌, ◌<◌, ◌≤◌, false, List, ◌++◌, map, length, option_map, None}
use Rattle.std.specs.List.{AllByRecursion}
use Rattle.type_table.specs.Tree.{Tree}
use Rattle.module_arena.specs.Module.{Bytes, Module}
use Rattle.module_arena.specs.Valid.{IsValid}
use Rattle.module_arena.specs.WellFormed.{IsWellFormed}
use Rattle.linkage_rules.specs.Bind.{undefined, behind}
use Rattle.linkage_rules.specs.Conflicts.{first_conflict}
use Rattle.linkage_rules.specs.declared.symbol.Symbol.{Symbol}
use Rattle.linkage_rules.specs.declared.symbol.Symbol.TheVariants.{Shared}
use Rattle.linkage_rules.specs.Entries.{same_symbol, symbol_in}
use Rattle.linkage_rules.specs.Lists.{has}
use Rattle.linkage_rules.specs.Symbols.{variable_symbols, function_symbols, symbols}
use Rattle.linkage_rules.specs.Winner.{home, shape_in}
use Rattle.link_rules.specs.Carried.{IsSymbol}
use Rattle.link_rules.specs.Known.{KnownName, KnownTree}
use Rattle.link_rules.specs.Rename.{new_global}
use Rattle.link_rules.specs.Structs.{linked_type}
use Rattle.rejoined_runs.specs.Regrouped.{regrouped, symbol_after, entry_after}

-- what the parts `a` and `b` are where those of `a` are one
pub record Regroups (a b : List Module) : Type 0 where
  -- the symbols stay in their order, and no two become one
  pub variables : variable_symbols (regrouped a b)
      ≡ map (symbol_after a) (variable_symbols (a ++ b))
  pub functions : function_symbols (regrouped a b)
      ≡ map (symbol_after a) (function_symbols (a ++ b))
  pub all : symbols (regrouped a b) ≡ map (symbol_after a) (symbols (a ++ b))
  pub apart : (s t : Symbol) → IsSymbol (a ++ b) s → IsSymbol (a ++ b) t
      → same_symbol (symbol_after a s) (symbol_after a t) ≡ same_symbol s t
  -- each is defined where it was
  pub homes : (s : Symbol) → IsSymbol (a ++ b) s
      → home (regrouped a b) (symbol_after a s) ≡ option_map (entry_after a s) (home (a ++ b) s)
  -- one that is nowhere defined means the same, and one that no part has is not there
  pub undefined_same : (s : Symbol) → IsSymbol (a ++ b) s → home (a ++ b) s ≡ None
      → undefined (regrouped a b) (symbol_after a s) ≡ undefined (a ++ b) s
  pub absent : (name : Bytes) → has same_symbol (symbols (a ++ b)) (Shared name) ≡ false
      → (home (a ++ b) (Shared name) ≡ None) × (home (regrouped a b) (Shared name) ≡ None)
  -- aliases are of what they were of
  pub behinds : (s : Symbol) → IsSymbol (a ++ b) s
      → behind (regrouped a b) (symbol_after a s) ≡ symbol_after a (behind (a ++ b) s)
  -- a name that a first part writes is written as the symbol that it was of, and one of another
  -- part is of the same symbol
  pub first_names : (i : ℕ) (name : Bytes) → i < length a → KnownName a i name
      → symbol_in (regrouped a b) 0 (new_global a i name)
      ≡ symbol_after a (symbol_in (a ++ b) i name)
  pub later_names : (i : ℕ) (name : Bytes) → length a ≤ i
      → symbol_in (regrouped a b) (suc (i - length a)) name
      ≡ symbol_after a (symbol_in (a ++ b) i name)
  -- and so it is with types and their shapes
  pub first_shapes : (i : ℕ) (t : Tree) → i < length a → KnownTree a i t
      → shape_in (regrouped a b) 0 (linked_type a i t) ≡ shape_in (a ++ b) i t
  pub later_shapes : (i : ℕ) (t : Tree) → length a ≤ i
      → shape_in (regrouped a b) (suc (i - length a)) t ≡ shape_in (a ++ b) i t

-- so it is where those of `a` are well formed and valid, and have no conflict
abbrev pub RegroupsSymbols : Type 0
RegroupsSymbols = (a b : List Module) → AllByRecursion IsWellFormed a → AllByRecursion IsValid a
    → first_conflict a ≡ None → Regroups a b

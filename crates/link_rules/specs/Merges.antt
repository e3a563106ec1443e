-- For `linking_carries_symbols`: what linking does to symbols. Each is carried over, in order, with its definition and its meaning.
use Rattle.std.specs.Prelude.{◌≡◌, ℕ, false, List, map, option_map, option_to_list, None}
use Rattle.type_table.specs.Tree.{Tree}
use Rattle.module_arena.specs.Module.{Bytes, Module}
use Rattle.linkage_rules.specs.Bind.{undefined, behind}
use Rattle.linkage_rules.specs.declared.symbol.Symbol.{Symbol}
use Rattle.linkage_rules.specs.declared.symbol.Symbol.TheVariants.{Shared}
use Rattle.linkage_rules.specs.Entries.{same_symbol, symbol_in}
use Rattle.linkage_rules.specs.Lists.{has}
use Rattle.linkage_rules.specs.Symbols.{variable_symbols, function_symbols, symbols}
use Rattle.linkage_rules.specs.Winner.{definitions, home, shape_in}
use Rattle.link_rules.specs.Carried.{merged, IsSymbol, carry, moved}
use Rattle.link_rules.specs.Known.{KnownName, KnownTree}
use Rattle.link_rules.specs.Rename.{new_global}
use Rattle.link_rules.specs.Structs.{linked_type}

-- what linking does to the symbols of these parts
pub record Merges (parts : List Module) : Type 0 where
  -- the symbols stay in their order, and no two become one
  pub variables : variable_symbols (merged parts) ≡ map (carry parts) (variable_symbols parts)
  pub functions : function_symbols (merged parts) ≡ map (carry parts) (function_symbols parts)
  pub all : symbols (merged parts) ≡ map (carry parts) (symbols parts)
  pub apart : (s t : Symbol) → IsSymbol parts s → IsSymbol parts t → same_symbol (carry parts s) (carry parts t) ≡ same_symbol s t
  -- each has one definition at most
  pub homes : (s : Symbol) → IsSymbol parts s → home (merged parts) (carry parts s) ≡ option_map (moved parts s) (home parts s)
  pub defined_once : (s : Symbol) → IsSymbol parts s → definitions (merged parts) (carry parts s) ≡ option_to_list (option_map (moved parts s) (home parts s))
  -- one that is nowhere defined means the same, and one that no part has is not there
  pub undefined_same : (s : Symbol) → IsSymbol parts s → home parts s ≡ None → undefined (merged parts) (carry parts s) ≡ undefined parts s
  pub absent : (name : Bytes) → has same_symbol (symbols parts) (Shared name) ≡ false → (home parts (Shared name) ≡ None) × (home (merged parts) (Shared name) ≡ None)
  -- aliases are of what they were of
  pub behinds : (s : Symbol) → IsSymbol parts s → behind (merged parts) (carry parts s) ≡ carry parts (behind parts s)
  -- a name is written as the symbol that it was of, and a type as one of its shape
  pub names : (i : ℕ) (name : Bytes) → KnownName parts i name → symbol_in (merged parts) 0 (new_global parts i name) ≡ carry parts (symbol_in parts i name)
  pub shapes : (i : ℕ) (t : Tree) → KnownTree parts i t → shape_in (merged parts) 0 (linked_type parts i t) ≡ shape_in parts i t

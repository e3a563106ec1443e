-- For `fresh_names_are_free`, `names_stay_apart` and `linking_carries_symbols`: what the symbols of some parts are called in the module
-- that is made of them.
use Rattle.std.specs.Prelude.{ℕ, zero, suc, ◌+◌, List, [], ◌∷◌, ◌++◌, map, length, Option, Some, None, codes, bytes_eq, if◌then◌else◌}
use Rattle.std.specs.Int.Digits.{digits_of}
use Rattle.std.specs.Map.{lookup}
use Rattle.module_arena.specs.Module.{Bytes, Module}
use Rattle.linkage_rules.specs.Globals.{name_of}
use Rattle.linkage_rules.specs.Lists.{has}
use Rattle.linkage_rules.specs.Entries.{entries, same_symbol, symbol_in, symbol_name}
use Rattle.linkage_rules.specs.declared.symbol.Symbol.{Symbol}
use Rattle.linkage_rules.specs.declared.symbol.Symbol.TheVariants.{Shared, Local}
use Rattle.linkage_rules.specs.Symbols.{symbols}

-- a name, a dot, a number in decimal
abbrev pub dotted : Bytes → ℕ → Bytes
dotted base n = base ++ 46 ∷ map (λ d. d + 48) (digits_of 10 n)

-- the least number from n on, of at most `room` more, that gives a name not taken
abbrev pub least : ℕ → List Bytes → Bytes → ℕ → ℕ
least zero taken base n = n
least (suc room) taken base n = if has bytes_eq taken (dotted base n) then least room taken base (suc n) else n

-- one of the first numbers is free, since there are more of them than names taken
abbrev pub fresh : List Bytes → Bytes → Bytes
fresh taken base = dotted base (least (length taken) taken base 1)

module _ (base : Bytes → Bytes) (everywhere : List Bytes) where
  -- a name stays unless it was given before
  abbrev pub new_name : List Bytes → Bytes → Bytes
  new_name given name = if has bytes_eq given name then fresh (given ++ everywhere) (base name) else name

  -- each symbol with its name in the result, where these names are given
  abbrev pub with_given_names : List Bytes → List Symbol → List (Symbol × Bytes)
  with_given_names given [] = []
  with_given_names given (Shared name ∷ ss) = (Shared name, name) ∷ with_given_names given ss
  with_given_names given (Local part name ∷ ss) = (Local part name, new_name given name) ∷ with_given_names (new_name given name ∷ given) ss

  -- the names that are given after these symbols
  abbrev pub given_after : List Bytes → List Symbol → List Bytes
  given_after given [] = given
  given_after given (Shared name ∷ ss) = given_after given ss
  given_after given (Local part name ∷ ss) = given_after (new_name given name ∷ given) ss

-- the names that all parts share
abbrev pub shared_names : List Symbol → List Bytes
shared_names [] = []
shared_names (Shared name ∷ ss) = name ∷ shared_names ss
shared_names (Local part name ∷ ss) = shared_names ss

-- the names of all entries
abbrev pub all_names : List Module → List Bytes
all_names parts = map (λ e. name_of e.global) (entries parts)

-- a name that begins `llvm.` would be an intrinsic's
abbrev pub base_of : Bytes → Bytes
base_of name = if bytes_eq name (codes "llvm") then codes "llvm_" else name

-- each symbol, in order, with its name in the result
abbrev pub renaming : List Module → List (Symbol × Bytes)
renaming parts = with_given_names base_of (all_names parts) (shared_names (symbols parts)) (symbols parts)

-- the new name, or the old one where there is none
abbrev pub name_or : Bytes → Option Bytes → Bytes
name_or name None = name
name_or name (Some new) = new

-- what a symbol is called in the result
abbrev pub new_name_of : List Module → Symbol → Bytes
new_name_of parts s = name_or (symbol_name s) (lookup (same_symbol s) (renaming parts))

-- what a name of part i is in the result
abbrev pub new_global : List Module → ℕ → Bytes → Bytes
new_global parts i name = name_or name (lookup (same_symbol (symbol_in parts i name)) (renaming parts))

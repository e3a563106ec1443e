-- For `resolve_symbols`: the entries of some parts, and what each is of: a name that all parts share, or one that a part keeps to itself
-- (LangRef, "Linkage Types").
use Rattle.std.specs.Prelude.{ℕ, suc, Bool, false, ◌&&◌, List, [], ◌∷◌, ◌++◌, map, filter, bytes_eq, nat_eq, slice_index_or, if◌then◌else◌}
use Rattle.type_table.specs.Tree.{Structs}
pub use Rattle.linkage_rules.specs.declared.symbol.Symbol.{Symbol}
pub use Rattle.linkage_rules.specs.declared.symbol.Symbol.TheVariants.{Shared, Local}
use Rattle.module_arena.specs.Module.{Bytes, Module, empty_module}
use Rattle.linkage_rules.specs.Globals.{Global, name_of, linkage_of, globals}
use Rattle.linkage_rules.specs.Linkages.{is_local}
use Rattle.linkage_rules.specs.Lists.{has}

-- what a part has under a name, with the number of the part, counted from 0
pub record Entry : Type 0 where
  pub part : ℕ
  pub global : Global

-- the entries of parts of which the first has this number
abbrev pub entries_from : ℕ → List Module → List Entry
entries_from i [] = []
entries_from i (m ∷ ms) = map (λ g. record { part = i; global = g }) (globals m) ++ entries_from (suc i) ms

-- all entries, part by part
abbrev pub entries : List Module → List Entry
entries parts = entries_from 0 parts

-- part i
abbrev pub part_at : List Module → ℕ → Module
part_at parts i = slice_index_or parts i empty_module

-- the named structs that a part's types speak of
abbrev pub structs_at : List Module → ℕ → Structs
structs_at parts i = (part_at parts i).structs

-- a test of two symbols
abbrev pub same_symbol : Symbol → Symbol → Bool
same_symbol (Shared m) (Shared n) = bytes_eq m n
same_symbol (Local i m) (Local j n) = nat_eq i j && bytes_eq m n
same_symbol (Shared m) (Local j n) = false
same_symbol (Local i m) (Shared n) = false

-- the name of a symbol
abbrev pub symbol_name : Symbol → Bytes
symbol_name (Shared name) = name
symbol_name (Local part name) = name

-- the symbol of an entry
abbrev pub symbol_of : Entry → Symbol
symbol_of e = if is_local (linkage_of e.global) then Local e.part (name_of e.global) else Shared (name_of e.global)

-- what a name is of in part i: that part's own local, if it has one
abbrev pub symbol_in : List Module → ℕ → Bytes → Symbol
symbol_in parts i name = if has same_symbol (map symbol_of (entries parts)) (Local i name) then Local i name else Shared name

-- the entries of a symbol, part by part
abbrev pub entries_of : List Module → Symbol → List Entry
entries_of parts s = filter (λ e. same_symbol s (symbol_of e)) (entries parts)

-- the entries of a name that are not local
abbrev pub mentions : List Module → Bytes → List Entry
mentions parts name = entries_of parts (Shared name)

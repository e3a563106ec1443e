-- For `linking_carries_symbols`: the names and the types that a part has, so that what it writes of them is found in the result.
use Rattle.std.specs.Prelude.{◌≡◌, ℕ, true, List, ⊤}
use Rattle.type_table.specs.Tree.{Tree, int, ptr, void, array, struct, named, Trees, no_trees, more_trees}
use Rattle.module_arena.specs.Module.{Bytes, Module}
use Rattle.linkage_rules.specs.declared.symbol.Symbol.TheVariants.{Local}
use Rattle.linkage_rules.specs.Entries.{same_symbol, symbol_in}
use Rattle.linkage_rules.specs.Lists.{has}
use Rattle.link_rules.specs.Carried.{IsSymbol}
use Rattle.link_rules.specs.Structs.{struct_symbols}

module _ (parts : List Module) where
  -- part i has an entry of the name
  abbrev pub KnownName : ℕ → Bytes → Type 0
  KnownName i name = IsSymbol parts (symbol_in parts i name)

  -- part i has that struct
  abbrev pub IsStruct : ℕ → Bytes → Type 0
  IsStruct i name = has same_symbol (struct_symbols parts) (Local i name) ≡ true

  abbrev mutual
    -- part i has each struct that the type names
    pub KnownTree : ℕ → Tree → Type 0
    KnownTree i (int w) = ⊤
    KnownTree i ptr = ⊤
    KnownTree i void = ⊤
    KnownTree i (array n t) = KnownTree i t
    KnownTree i (struct packed ts) = KnownTrees i ts
    KnownTree i (named name) = IsStruct i name

    -- and each that these types name
    pub KnownTrees : ℕ → Trees → Type 0
    KnownTrees i no_trees = ⊤
    KnownTrees i (more_trees t ts) = KnownTree i t × KnownTrees i ts

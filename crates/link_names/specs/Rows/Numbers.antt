-- For `link_names::rows`: which struct of the linked module each struct of each part is.
use Rattle.std.specs.Prelude.{◌≡◌, ℕ, List, map, take, length, slice_get, Some}
use Rattle.linkage_rules.specs.Entries.{symbol_name}
use Rattle.linkage_rules.specs.declared.symbol.Symbol.{Symbol}
use Rattle.module_arena.specs.Module.{Bytes, Module}
use Rattle.link_rules.specs.Structs.{structs_from, struct_symbols, struct_map, new_struct}
use Rattle.type_table.specs.Tree.{TreeBody}

-- the names of the structs of all parts
abbrev pub all_struct_names : List Module → List Bytes
all_struct_names parts = map symbol_name (struct_symbols parts)

-- the structs of the first so many parts
abbrev pub so_far : List Module → ℕ → List Symbol
so_far parts count = structs_from 0 (take count parts)

-- what the structs of the linked module are called, in their order
abbrev pub new_struct_names : List Module → List Bytes
new_struct_names parts = map (λ row. row.1) (struct_map parts)

-- the struct with this name in part i is the one with that number
abbrev pub IsNewStruct : List Module → ℕ → Bytes → ℕ → Type 0
IsNewStruct parts i name number = slice_get (new_struct_names parts) number ≡ Some (new_struct parts i name)

-- The structs of part i are those with these numbers.
pub record AreOfPart (parts : List Module) (i : ℕ) (m : Module) (numbers : List ℕ) : Type 0 where
  pub count : length numbers ≡ length m.structs
  pub each : (id number : ℕ) (s : Bytes × TreeBody) → slice_get m.structs id ≡ Some s → slice_get numbers id ≡ Some number → IsNewStruct parts i s.0 number

-- Each part has its list, and each struct its number.
pub record AreNewStructs (parts : List Module) (numbers : List (List ℕ)) : Type 0 where
  pub count : length numbers ≡ length parts
  pub each : (i : ℕ) (m : Module) (list : List ℕ) → slice_get parts i ≡ Some m → slice_get numbers i ≡ Some list → AreOfPart parts i m list

-- For `copy_part`: which structs of the linked module those of a part are, and which have their bodies.
use Rattle.std.specs.Prelude.{◌≡◌, ℕ, ◌<◌, List, map, length, slice_get, Some}
use Rattle.module_arena.specs.Lists.{Lists}
use Rattle.module_arena.specs.Module.{Bytes, Module}
use Rattle.link_rules.specs.Linked.{link_result}
use Rattle.link_rules.specs.Structs.{struct_map, new_struct}
use Rattle.entry_copy.specs.Tables.{Tables}
use Rattle.entry_copy.specs.Tables as tables
use Rattle.item_build.specs.Partly.{IsDone}

-- the struct with this name in part i is, in the linked module, the one with that number
abbrev pub IsNewStruct : List Module → ℕ → Bytes → ℕ → Type 0
IsNewStruct parts i name number = slice_get (map (λ row. row.1) (struct_map parts)) number ≡ Some (new_struct parts i name)

-- The structs of part i, whose lists are a, are those of the linked module which the copier says.
pub record KnowsStructs (parts : List Module) (i : ℕ) (a : Lists) (t : Tables) : Type 0 where
  pub count : length t.structs ≡ length a.table.structs
  pub each : (id new : ℕ) (name : Bytes) → slice_get (map (λ s. s.0) a.table.structs) id ≡ Some name → slice_get t.structs id ≡ Some new → IsNewStruct parts i name new

-- each struct of the part, whose lists are a, has its body in the arena b
abbrev pub AreDone : List Module → Lists → Lists → Tables → Type 0
AreDone parts a b t = (id : ℕ) → id < length a.table.structs → IsDone (link_result parts).structs b (tables.new_struct t id)

-- each struct of the linked module that has its body in b has it in c as well
abbrev pub KeepsDone : List Module → (b c : Lists) → Type 0
KeepsDone parts b c =
    (other : ℕ) → other < length (link_result parts).structs → IsDone (link_result parts).structs b other → IsDone (link_result parts).structs c other

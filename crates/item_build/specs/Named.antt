-- Says how the code reads: structs that are named, none of which has its body, and items that name and define them one
-- after the other.
use Rattle.std.specs.Prelude.{ℕ, ◌+◌, ◌<◌, List, [], map, length, Contains, None, option_to_list}
use Rattle.ir_syntax.specs.Tree.{ItemTree, Struct}
use Rattle.type_table.specs.Tree.{TreeBody, Structs}
use Rattle.type_table.specs.Types.{Types, with_struct, names}
use Rattle.module_arena.specs.Lists.{Lists}
use Rattle.name_rules.specs.ModuleOf.{struct_in}
use Rattle.item_build.specs.Partly.{IsDone, CanDefine}

-- the table with these structs alone, none of which has its body
abbrev pub named_table : Structs → Types
named_table all = record { types = []; structs = map (λ (s : List ℕ × TreeBody). (s.0, None)) all }

-- the table with the struct of the item
abbrev pub named_in : Types → ItemTree → Types
named_in t (Struct name body) = with_struct t name.name
named_in t _ = t

-- no struct has the name of the one that the item is
abbrev pub IsNewStruct : Types → ItemTree → Type 0
IsNewStruct t (Struct name body) = Contains (names t) name.name → ⊥
IsNewStruct t _ = Unit {0}

-- the struct of the item can be defined under that number
abbrev pub CanDefineItem : Structs → Lists → ℕ → ItemTree → Type 0
CanDefineItem whole a number (Struct name body) = CanDefine whole a number body
CanDefineItem whole a number _ = Unit {0}

-- the number behind those of the structs, where the item may be one
abbrev pub struct_behind : ℕ → ItemTree → ℕ
struct_behind number item = number + length (option_to_list (struct_in item))

-- the structs below that number have their bodies
abbrev pub AreDone : Structs → Lists → ℕ → Type 0
AreDone whole a count = (number : ℕ) → number < count → IsDone whole a number

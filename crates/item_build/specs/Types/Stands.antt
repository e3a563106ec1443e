-- For `add_type`, `add_constant` and the other calls of `Builder`: what the ids of an arena stand for, and that they go
-- on to do so while more is added.
use Rattle.std.specs.Prelude.{◌≡◌, ℕ, ◌<◌, List, map, length, All}
use Rattle.type_table.specs.Tree.{Tree}
use Rattle.type_table.specs.Types.{trees}
use Rattle.module_arena.specs.declared.constant.TypedConst.{TypedConst}
use Rattle.module_arena.specs.Lists.{Lists}
use Rattle.module_arena.specs.Module.{Constant}
pub use Rattle.module_arena.specs.View.{IsConstant}
use Rattle.module_arena.specs.View.{type_at, constant_at, constants_of, module_of}

-- the id is that of this type
pub record IsType (a : Lists) (id : ℕ) (t : Tree) : Type 0 where
  pub known : id < length a.table.types
  pub tree : type_at (trees a.table) id ≡ t

-- the ids are those of these types, in order
pub record AreTypes (a : Lists) (ids : List ℕ) (ts : List Tree) : Type 0 where
  pub known : All (λ id. id < length a.table.types) ids
  pub trees : map (type_at (trees a.table)) ids ≡ ts

-- a constant, and the type that is written before it
abbrev pub typed_at : Lists → TypedConst → Tree × Constant
typed_at a c = (type_at (trees a.table) c.ty, constant_at (constants_of a) c.value)

-- the ids are those of the arena
abbrev pub IsKnownTyped : Lists → TypedConst → Type 0
IsKnownTyped a c = (c.ty < length a.table.types) × (c.value < length a.constants)

-- all of them are
abbrev pub AreKnown : Lists → List TypedConst → Type 0
AreKnown a ids = All (IsKnownTyped a) ids

-- the ids are those of these constants with their types, in order
pub record AreTyped (a : Lists) (ids : List TypedConst) (cs : List (Tree × Constant)) : Type 0 where
  pub known : AreKnown a ids
  pub constants : map (typed_at a) ids ≡ cs

-- the ids are those of this constant and of its type
pub record IsTyped (a : Lists) (id : TypedConst) (c : Tree × Constant) : Type 0 where
  pub ty : IsType a id.ty c.0
  pub value : IsConstant a id.value c.1

-- Types and constants were added at most: each id stands for what it did, and the module is the same.
pub record Grows (a b : Lists) : Type 0 where
  pub structs : b.table.structs ≡ a.table.structs
  pub variables : b.variables ≡ a.variables
  pub aliases : b.aliases ≡ a.aliases
  pub functions : b.functions ≡ a.functions
  pub types : (id : ℕ) (t : Tree) → IsType a id t → IsType b id t
  pub constants : (id : ℕ) (c : Constant) → IsConstant a id c → IsConstant b id c
  pub same : module_of b ≡ module_of a

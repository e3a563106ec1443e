-- For `over`, `pointer`, `bit` and `keep` of `GrowingArena`: an arena in the making, and what it keeps while constants
-- are added.
use Rattle.std.specs.Prelude.{◌≡◌, ◌⊎◌, ℕ, ◌+◌, ◌<◌, List, [], ◌∷◌, ◌++◌, length}
use Rattle.type_table.specs.declared.ir_type.IrType.TheVariants as type
use Rattle.type_table.specs.Tree.{Tree, ptr, int}
use Rattle.type_table.specs.Types.{tree, with_type}
use Rattle.module_arena.specs.declared.constant.Const.{Const}
use Rattle.module_arena.specs.Changes.{constant_in, with_table}
use Rattle.module_arena.specs.Lists.{Lists}
pub use Rattle.module_arena.specs.View.{IsConstant}
use Rattle.module_arena.specs.View.{constants_of, constant_at}

-- the arena, how many of its types are listed, and where `ptr` and i1 are
pub record Growing : Type 0 where
  pub arena : Lists
  pub types : ℕ
  pub pointer : ℕ
  pub bit : ℕ

-- the type of that number is this one
pub record IsType (a : Lists) (id : ℕ) (t : Tree) : Type 0 where
  pub known : id < length a.table.types
  pub tree_is : tree a.table id ≡ t

-- the types that are listed come first, and it has those that records do not name
pub record IsGrowing (g : Growing) : Type 0 where
  pub listed : g.types < length g.arena.table.types
  pub pointer : IsType g.arena g.pointer ptr
  pub bit : IsType g.arena g.bit (int 1)

-- all types of that arena are listed, and `ptr` and i1 are added behind them
pub record IsOver (listed : Lists) (g : Growing) : Type 0 where
  pub arena : g.arena ≡ with_table listed (with_type (with_type listed.table type.Ptr) (type.Int 1))
  pub types : g.types ≡ length listed.table.types
  pub pointer : g.pointer ≡ length listed.table.types
  pub bit : g.bit ≡ length listed.table.types + 1

-- constants keep what they are, and all else stays
pub record Grows (old new : Growing) : Type 0 where
  pub rest : new ≡ record old { arena = record old.arena { constants = new.arena.constants } }
  pub constants : (id : ℕ) → id < length old.arena.constants → IsConstant new.arena id (constant_at (constants_of old.arena) id)

-- the constants that were there, or these with that one behind
abbrev pub AddsAtMost : Const → List Const → List Const → Type 0
AddsAtMost c before now = (now ≡ before) ⊎ (now ≡ before ++ c ∷ [])

-- the constant of that number is this one, added or there already, and no other is added
pub record AddsConstant (old : Growing) (c : Const) (new : Growing) (id : ℕ) : Type 0 where
  pub grows : Grows old new
  pub is : IsConstant new.arena id (constant_in old.arena c)
  pub added : AddsAtMost c old.arena.constants new.arena.constants

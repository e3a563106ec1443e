-- Says how the code of `constant_classes` reads: what a constant is kept under while numbers are given out.
use Rattle.std.specs.Prelude.{◌≡◌, ℕ, ◌<◌, List, map, length, slice_index_or, slice_get, Some}
use Rattle.std.specs.List.{IsDistinct}
use Rattle.module_arena.specs.declared.constant.Const.{Const}
use Rattle.module_arena.specs.declared.constant.Const.TheVariants as const
use Rattle.module_arena.specs.declared.constant.TypedConst.{TypedConst}
use Rattle.module_arena.specs.Lists.{Lists}
use Rattle.module_arena.specs.SameConst.{same_const}

module _ (types classes : List ℕ) where
  -- a constant with its type, by the numbers of both
  abbrev pub typed_key : TypedConst → TypedConst
  typed_key part = record { ty = slice_index_or types part.ty 0; value = slice_index_or classes part.value 0 }

  -- the constant with the numbers of its types and parts in their places
  abbrev pub key_of : Const → Const
  key_of (const.Integer number) = const.Integer number
  key_of (const.Truth truth) = const.Truth truth
  key_of const.Null = const.Null
  key_of const.Undef = const.Undef
  key_of const.Poison = const.Poison
  key_of const.ZeroInitializer = const.ZeroInitializer
  key_of (const.Address g) = const.Address g
  key_of (const.ByteString bytes) = const.ByteString bytes
  key_of (const.Aggregate round elements) = const.Aggregate round (map typed_key elements)
  key_of (const.ElementAddress flags address) =
      const.ElementAddress flags (record { source = slice_index_or types address.source 0; operands = map typed_key address.operands })
  key_of (const.Cast opcode operand to) = const.Cast opcode (typed_key operand) (slice_index_or types to 0)
  key_of (const.Binary opcode flags pair) = const.Binary opcode flags (record { left = typed_key pair.left; right = typed_key pair.right })

-- while numbers are given out: each key stands once, and the number of a constant is the place of its key
pub record AreSlots (a : Lists) (types classes : List ℕ) (keys : List Const) (count : ℕ) : Type 0 where
  pub many : length classes ≡ count
  pub apart : IsDistinct same_const keys
  pub slots : (i : ℕ) → i < count → slice_get keys (slice_index_or classes i 0) ≡ Some (key_of types classes (slice_index_or a.constants i const.Null))

-- For `classes` of `TypeJudge`, and how the code reads: which types are written alike. The code gives a type the number of
-- the first of those written as it is, among the types that are not written as an earlier one.
use Rattle.std.specs.Prelude.{◌≡◌, ℕ, ◌<◌, ◌==◌, List, map, length, slice_index_or, slice_get, Some}
use Rattle.std.specs.List.{IsDistinct}
use Rattle.type_table.specs.Keys.{type_eq}
use Rattle.type_table.specs.declared.ir_type.IrType.{IrType}
use Rattle.type_table.specs.declared.ir_type.IrType.TheVariants as type
use Rattle.type_table.specs.Types.{Types, tree}
use Rattle.module_arena.specs.Same.{same_type}

-- two types have one class exactly where they are written alike
abbrev pub AreClasses : Types → List ℕ → Type 0
AreClasses t classes = (a b : ℕ) → a < length t.types → b < length t.types
    → (slice_index_or classes a 0 == slice_index_or classes b 0) ≡ same_type (tree t a) (tree t b)

-- the type with the classes of its parts in their places
abbrev pub key_of : List ℕ → IrType → IrType
key_of classes (type.Int width) = type.Int width
key_of classes type.Ptr = type.Ptr
key_of classes type.Void = type.Void
key_of classes (type.Array length part) = type.Array length (slice_index_or classes part 0)
key_of classes (type.Struct packed parts) = type.Struct packed (map (λ part. slice_index_or classes part 0) parts)
key_of classes (type.Named id) = type.Named id

-- while classes are given out: each key stands once, and the class of a type is the place of its key
pub record AreSlots (t : Types) (classes : List ℕ) (keys : List IrType) (count : ℕ) : Type 0 where
  pub many : length classes ≡ count
  pub apart : IsDistinct type_eq keys
  pub slots : (a : ℕ) → a < count → slice_get keys (slice_index_or classes a 0) ≡ Some (key_of classes (slice_index_or t.types a type.Void))

-- For `equal_look_ups_give_equal_runs`: the leaves of a value, its integers and pointers one after another, and where they
-- lie (LangRef, "Aggregate Types").
use Rattle.std.specs.Prelude.{ℕ, zero, suc, ◌+◌, ◌*◌, Bool, true, false, List, [], ◌∷◌, ◌++◌, map}
use Rattle.ir_eval.specs.declared.value.Scalar.{Scalar}
use Rattle.ir_eval.specs.declared.value.Scalar.TheVariants as scalar
use Rattle.ir_eval.specs.Cast.{pointer_at}
use Rattle.ir_memory.specs.declared.leaf.Leaf.{Leaf}
use Rattle.ir_memory.specs.declared.leaf.Leaf.TheVariants as leaf
use Rattle.type_table.specs.Shape.{Shape, int_leaf, ptr_leaf, void_leaf, opaque_leaf, array_of, struct_of, Shapes, no_shapes, more_shapes}
use Rattle.type_table.specs.Layout.{size, align, field_start, leaves}

-- a leaf, and how far it lies behind the first byte of its value
pub record Slot : Type 0 where
  pub offset : ℕ
  pub leaf : Leaf

-- so many elements, each `step` bytes behind the one before
unfoldable pub repeated : ℕ → (ℕ → List Slot) → ℕ → ℕ → List Slot
repeated zero element at step = []
repeated (suc n) element at step = element at ++ repeated n element (at + step) step

abbrev mutual
  -- the leaves of a value that begins at that offset
  pub slots_at : Shape → ℕ → List Slot
  slots_at (int_leaf w) at = record { offset = at; leaf = leaf.Int w } ∷ []
  slots_at ptr_leaf at = record { offset = at; leaf = leaf.Ptr } ∷ []
  slots_at void_leaf at = []
  slots_at (opaque_leaf label) at = []
  slots_at (array_of n s) at = repeated n (slots_at s) at (size s)
  slots_at (struct_of label packed ss) at = field_slots ss packed at 0

  -- the leaves of fields, in a struct that begins at that offset and whose fields so far end after `end` bytes
  pub field_slots : Shapes → Bool → ℕ → ℕ → List Slot
  field_slots no_shapes packed at end = []
  field_slots (more_shapes s ss) packed at end =
      slots_at s (at + field_start packed end (align s))
      ++ field_slots ss packed at (field_start packed end (align s) + size s)

-- the leaves of a value, from its first byte on
abbrev pub slots : Shape → List Slot
slots s = slots_at s 0

-- what fresh memory reads as
abbrev pub zero_leaf : Leaf → Scalar
zero_leaf (leaf.Int w) = scalar.Int 0
zero_leaf leaf.Ptr = scalar.Ptr (pointer_at 0)

-- a leaf is a pointer
abbrev pub is_pointer : Leaf → Bool
is_pointer (leaf.Int w) = false
is_pointer leaf.Ptr = true

-- a value of zeros
abbrev pub zeros : Shape → List Scalar
zeros s = map (λ slot. zero_leaf slot.leaf) (slots s)

-- a value of poison in every leaf
abbrev pub poisons : Shape → List Scalar
poisons s = map (λ slot. scalar.Poison) (slots s)

-- the width of an integer; that of a pointer is written 64
abbrev pub width : Shape → ℕ
width (int_leaf w) = w
width ptr_leaf = 64
width void_leaf = 0
width (opaque_leaf label) = 0
width (array_of n s) = 0
width (struct_of label packed ss) = 0

-- the field with that index
abbrev pub field : Shapes → ℕ → Shape
field no_shapes i = void_leaf
field (more_shapes s ss) zero = s
field (more_shapes s ss) (suc i) = field ss i

-- how many leaves stand before a field
abbrev pub leaves_before_field : Shapes → ℕ → ℕ
leaves_before_field no_shapes i = 0
leaves_before_field (more_shapes s ss) zero = 0
leaves_before_field (more_shapes s ss) (suc i) = leaves s + leaves_before_field ss i

-- the element of an array or the field of a struct with that index
abbrev pub element : Shape → ℕ → Shape
element (array_of n s) i = s
element (struct_of label packed ss) i = field ss i
element (int_leaf w) i = void_leaf
element ptr_leaf i = void_leaf
element void_leaf i = void_leaf
element (opaque_leaf label) i = void_leaf

-- how many leaves stand before it
abbrev pub leaves_before : Shape → ℕ → ℕ
leaves_before (array_of n s) i = i * leaves s
leaves_before (struct_of label packed ss) i = leaves_before_field ss i
leaves_before (int_leaf w) i = 0
leaves_before ptr_leaf i = 0
leaves_before void_leaf i = 0
leaves_before (opaque_leaf label) i = 0

-- the part that a list of indices names, each within the part before
abbrev pub part : Shape → List ℕ → Shape
part s [] = s
part s (i ∷ is) = part (element s i) is

-- how many leaves stand before that part
abbrev pub leaves_before_part : Shape → List ℕ → ℕ
leaves_before_part s [] = 0
leaves_before_part s (i ∷ is) = leaves_before s i + leaves_before_part (element s i) is

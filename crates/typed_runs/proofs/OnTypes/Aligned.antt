-- The alignment of a type, and one that is stated, is a power of two.
use Rattle.std.proofs.Common.{◌≡◌, ℕ, max, refl, subst, arith, Bool, true, false, Some, nat_le, leb-true, leb-false}
use Rattle.std.specs.Prelude.{if◌then◌else◌}
use Rattle.ir_memory.specs.Given.{IsAlignment}
use Rattle.type_table.specs.Layout.{align, greatest_align}
use Rattle.type_table.specs.Shape.{Shape, int_leaf, ptr_leaf, void_leaf, opaque_leaf, array_of, struct_of, Shapes, no_shapes, more_shapes}
use Rattle.module_arena.specs.EntryRules.{alignment_suits}
use Rattle.module_arena.proofs.Powers.{alignments_are_powers}

pub one : IsAlignment 1
one = (0, omega arith, refl)

integer_aligned : (a b c d : Bool) → IsAlignment (if a then 1 else (if b then 2 else (if c then 4 else (if d then 8 else 16))))
integer_aligned true b c d = one
integer_aligned false true c d = (1, omega arith, refl)
integer_aligned false false true d = (2, omega arith, refl)
integer_aligned false false false true = (3, omega arith, refl)
integer_aligned false false false false = (4, omega arith, refl)

greater : (a b : ℕ) (c : Bool) → nat_le a b ≡ c → IsAlignment a → IsAlignment b → IsAlignment (max a b)
greater a b true e h k =
    let le = leb-true a b e in
    let same : b ≡ max a b = omega (arith, le) in subst IsAlignment same k
greater a b false e h k =
    let more = leb-false a b e in
    let same : a ≡ max a b = omega (arith, more) in subst IsAlignment same h

-- of two alignments the greater is one
pub greater_aligned : (a b : ℕ) → IsAlignment a → IsAlignment b → IsAlignment (max a b)
greater_aligned a b h k = greater a b (nat_le a b) refl h k

packed_or : (packed : Bool) (a : ℕ) → IsAlignment a → IsAlignment (if packed then 1 else a)
packed_or true a h = one
packed_or false a h = h

mutual
  pub shape_aligned : (s : Shape) → IsAlignment (align s)
  shape_aligned (int_leaf w) = integer_aligned (nat_le w 8) (nat_le w 16) (nat_le w 32) (nat_le w 64)
  shape_aligned ptr_leaf = (3, omega arith, refl)
  shape_aligned void_leaf = one
  shape_aligned (opaque_leaf label) = one
  shape_aligned (array_of n s) = shape_aligned s
  shape_aligned (struct_of label packed ss) = packed_or packed (greatest_align ss) (fields_aligned ss)

  fields_aligned : (ss : Shapes) → IsAlignment (greatest_align ss)
  fields_aligned no_shapes = one
  fields_aligned (more_shapes s ss) = greater_aligned (align s) (greatest_align ss) (shape_aligned s) (fields_aligned ss)

-- what is stated
pub stated_aligned : (n : ℕ) → alignment_suits (Some n) ≡ true → IsAlignment n
stated_aligned n h = (alignments_are_powers n).0 h

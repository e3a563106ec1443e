-- The variables of a valid module have alignments.
use Rattle.std.proofs.Common.{◌≡◌, ℕ, ◌^◌, ◌≤◌, max, nat_le, Bool, true, false, Option, Some, None, refl, subst, arith, unwrap_or}
use Rattle.std.specs.Prelude.{slice_get, if◌then◌else◌}
use Rattle.std.specs.Option.{option_map_or}
use Rattle.std.proofs.lemmas.Bool.{leb-true, leb-false}
use Rattle.ir_memory.specs.Given.{IsAlignment}
use Rattle.type_table.specs.Layout.{align, greatest_align, int_align}
use Rattle.type_table.specs.Shape.{Shape, int_leaf, ptr_leaf, void_leaf, opaque_leaf, array_of, struct_of, Shapes, no_shapes, more_shapes}
use Rattle.type_table.specs.Types.{shape}
use Rattle.module_arena.specs.declared.entry.Variable.{Variable}
use Rattle.module_arena.specs.EntryRules.{alignment_suits}
use Rattle.module_arena.specs.Lists.{Lists}
use Rattle.module_arena.specs.Valid.{IsValid}
use Rattle.module_arena.specs.View.{module_of}
use Rattle.module_arena.proofs.Parts.{valid_variable}
use Rattle.module_arena.proofs.Powers.{alignments_are_powers}
use Rattle.run_names.proofs.Arena.{variable_seen, variable_there}
use Rattle.run_names.specs.Spots.{align_of}

power : (k : ℕ) → k ≤ 16 → IsAlignment (2 ^ k)
power k h = (k, h, refl)

either : (b : Bool) (m n : ℕ) → IsAlignment m → IsAlignment n → IsAlignment (if b then m else n)
either true m n p q = p
either false m n p q = q

int_aligned : (w : ℕ) → IsAlignment (int_align w)
int_aligned w =
    either (nat_le w 8) 1 _ (power 0 (omega arith))
    (either (nat_le w 16) 2 _ (power 1 (omega arith)) (either (nat_le w 32) 4 _ (power 2 (omega arith)) (either (nat_le w 64) 8 16 (power 3 (omega arith)) (power 4 (omega arith)))))

greater : (m n : ℕ) → IsAlignment m → IsAlignment n → IsAlignment (max m n)
greater m n p q = go (nat_le m n) refl
  where
    go : (b : Bool) → nat_le m n ≡ b → IsAlignment (max m n)
    go true e = let le = leb-true m n e in let same : n ≡ max m n = omega (arith, le) in subst IsAlignment same q
    go false e = let lt = leb-false m n e in let same : m ≡ max m n = omega (arith, lt) in subst IsAlignment same p

mutual
  shape_aligned : (s : Shape) → IsAlignment (align s)
  shape_aligned (int_leaf w) = int_aligned w
  shape_aligned ptr_leaf = power 3 (omega arith)
  shape_aligned void_leaf = power 0 (omega arith)
  shape_aligned (opaque_leaf label) = power 0 (omega arith)
  shape_aligned (array_of n s) = shape_aligned s
  shape_aligned (struct_of label packed ss) = either packed 1 (greatest_align ss) (power 0 (omega arith)) (shapes_aligned ss)

  shapes_aligned : (ss : Shapes) → IsAlignment (greatest_align ss)
  shapes_aligned no_shapes = power 0 (omega arith)
  shapes_aligned (more_shapes s ss) = greater (align s) (greatest_align ss) (shape_aligned s) (shapes_aligned ss)

aligned : (o : Option ℕ) (s : Option Shape) → alignment_suits o ≡ true → IsAlignment (unwrap_or o (option_map_or align s 1))
aligned (Some n) s h = (alignments_are_powers n).0 h
aligned None None h = power 0 (omega arith)
aligned None (Some s) h = shape_aligned s

pub variable_aligned : (a : Lists) (n : ℕ) (v : Variable) → slice_get a.variables n ≡ Some v → IsValid (module_of a) → IsAlignment (align_of a v)
variable_aligned a n v at valid = aligned v.alignment (shape a.table v.ty) (valid_variable (module_of a) n (variable_seen a v) valid (variable_there a n v at)).1.1.1.1.1.0

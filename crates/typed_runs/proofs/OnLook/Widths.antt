-- A value has as many kinds as leaves.
use Rattle.std.proofs.Common.{◌≡◌, ℕ, zero, suc, ◌+◌, ◌*◌, List, [], ◌∷◌, length, map, fold, sum, refl, sym, ap, ◌∙◌, arith, Bool}
use Rattle.std.proofs.lemmas.List.{length-append}
use Rattle.type_table.specs.Layout.{size, align, field_start, leaves, all_leaves}
use Rattle.type_table.specs.Shape.{Shape, int_leaf, ptr_leaf, void_leaf, opaque_leaf, array_of, struct_of, Shapes, no_shapes, more_shapes}
use Rattle.run_rules.specs.Leaves.{Slot, repeated, slots_at, field_slots, slots}
use Rattle.typed_runs.specs.Kinds.{kinds_of, kinds_of_all}

repeated_length : (n count : ℕ) (element : ℕ → List Slot) (at step : ℕ) → ((at : ℕ) → length (element at) ≡ count) → length (repeated n element at step) ≡ n * count
unfolding repeated
repeated_length zero count element at step h = omega arith
repeated_length (suc n) count element at step h =
    length-append (element at) (repeated n element (at + step) step)
    ∙ (let one = h at in let more = repeated_length n count element (at + step) step h in
    let whole : suc n * count ≡ count + n * count = omega arith in omega (arith, one, more, whole))

mutual
  slots_length : (s : Shape) (at : ℕ) → length (slots_at s at) ≡ leaves s
  slots_length (int_leaf w) at = refl
  slots_length ptr_leaf at = refl
  slots_length void_leaf at = refl
  slots_length (opaque_leaf label) at = refl
  slots_length (array_of n s) at = repeated_length n (leaves s) (slots_at s) at (size s) (slots_length s)
  slots_length (struct_of label packed ss) at = fields_length ss packed at 0

  fields_length : (ss : Shapes) (packed : Bool) (at end : ℕ) → length (field_slots ss packed at end) ≡ all_leaves ss
  fields_length no_shapes packed at end = refl
  fields_length (more_shapes s ss) packed at end =
      length-append (slots_at s (at + field_start packed end (align s))) (field_slots ss packed at (field_start packed end (align s) + size s))
      ∙ (let one = slots_length s (at + field_start packed end (align s)) in let more = fields_length ss packed at (field_start packed end (align s) + size s) in omega (arith, one, more))

pub mapped_length : {X Y : Type 0} (g : X → Y) (xs : List X) → length (map g xs) ≡ length xs
mapped_length g [] = refl
mapped_length g (x ∷ xs) = ap suc (mapped_length g xs)

pub kinds_length : (s : Shape) → length (kinds_of s) ≡ leaves s
kinds_length s = mapped_length (λ (slot : Slot). slot.leaf) (slots s) ∙ slots_length s 0

summed : {X : Type 0} (g : X → Shape) (n : ℕ) (xs : List X) → fold (λ a x. a + x) n (map (λ x. leaves (g x)) xs) ≡ n + length (kinds_of_all (map g xs))
summed g n [] = omega arith
summed g n (x ∷ xs) =
    summed g (n + leaves (g x)) xs
    ∙ (let both = length-append (kinds_of (g x)) (kinds_of_all (map g xs)) in let one = kinds_length (g x) in omega (arith, both, one))

-- and so of values one after another
pub all_kinds_length : {X : Type 0} (g : X → Shape) (xs : List X) → length (kinds_of_all (map g xs)) ≡ sum (map (λ x. leaves (g x)) xs)
all_kinds_length g xs = let e = summed g 0 xs in sym (e ∙ (let none : 0 + length (kinds_of_all (map g xs)) ≡ length (kinds_of_all (map g xs)) = omega arith in none))

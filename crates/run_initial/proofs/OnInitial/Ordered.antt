-- The leaves of a value lie one behind the other.
use Rattle.std.proofs.Common.{◌≡◌, ℕ, zero, suc, ◌+◌, ◌*◌, ◌/◌, ◌≤◌, List, [], ◌∷◌, ◌++◌, map, zip, Bool, subst, arith}
use Rattle.std.specs.List.{AllZip}
use Rattle.ir_eval.specs.declared.value.Scalar.{Scalar}
use Rattle.ir_memory.specs.Cell as cell
use Rattle.type_table.specs.Layout.{align, end_after, int_align, field_start, size}
use Rattle.type_table.specs.Shape.{Shape, int_leaf, ptr_leaf, void_leaf, opaque_leaf, array_of, struct_of, Shapes, no_shapes, more_shapes}
use Rattle.type_table.proofs.Caps.{field_start-le, next_multiple_of-le}
use Rattle.run_rules.specs.Leaves.{Slot, field_slots, repeated, slots_at}
use Rattle.run_rules.specs.Plan.{Contents}
use Rattle.run_actions.proofs.OnSlots.Slotted.{struct_holds}
use Rattle.typed_runs.specs.Kinds.{IsOf}
use Rattle.typed_runs.specs.States.{AreStored}

-- each leaf begins where the one before ends or later, from one place on and up to another
abbrev pub AreInOrder : ℕ → ℕ → Contents → Type 0
AreInOrder from to [] = from ≤ to
AreInOrder from to (x ∷ xs) = (from ≤ x.0.offset) × (x.0.offset + cell.size x.0.leaf ≤ to) × AreInOrder (x.0.offset + cell.size x.0.leaf) to xs

pub from_earlier : (early from to : ℕ) (xs : Contents) → early ≤ from → AreInOrder from to xs → AreInOrder early to xs
from_earlier early from to [] le h = omega (arith, le, h)
from_earlier early from to (x ∷ xs) le h = (let first = h.0 in omega (arith, le, first), h.1, h.2)

-- the same of slots
abbrev Follow : ℕ → ℕ → List Slot → Type 0
Follow from to [] = from ≤ to
Follow from to (s ∷ ss) = (from ≤ s.offset) × (s.offset + cell.size s.leaf ≤ to) × Follow (s.offset + cell.size s.leaf) to ss

follow_within : (from to : ℕ) (ss : List Slot) → Follow from to ss → from ≤ to
follow_within from to [] h = h
follow_within from to (s ∷ ss) h = let rest = follow_within (s.offset + cell.size s.leaf) to ss h.2 in let first = h.0 in omega (arith, first, rest)

follow_wider : (early from to late : ℕ) (ss : List Slot) → early ≤ from → to ≤ late → Follow from to ss → Follow early late ss
follow_wider early from to late [] le ge h = omega (arith, le, ge, h)
follow_wider early from to late (s ∷ ss) le ge h = (
  let first = h.0 in omega (arith, le, first),
  let last = h.1 in omega (arith, ge, last),
  follow_wider (s.offset + cell.size s.leaf) (s.offset + cell.size s.leaf) to late ss (omega arith) ge h.2,
)

follow_both : (from mid to : ℕ) (ss us : List Slot) → Follow from mid ss → Follow mid to us → Follow from to (ss ++ us)
follow_both from mid to [] us h k = follow_wider from mid to to us h (omega arith) k
follow_both from mid to (s ∷ ss) us h k = (
  h.0,
  let last = h.1 in let rest = follow_within mid to us k in omega (arith, last, rest),
  follow_both (s.offset + cell.size s.leaf) mid to ss us h.2 k,
)

repeated_follow : (n : ℕ) (element : ℕ → List Slot) (at step : ℕ) → ((bt : ℕ) → Follow bt (bt + step) (element bt)) → Follow at (at + n * step) (repeated n element at step)
unfolding repeated
repeated_follow zero element at step h = omega arith
repeated_follow (suc n) element at step h =
    let whole : at + step + n * step ≡ at + suc n * step = omega arith in
    follow_both at (at + step) (at + suc n * step) (element at) (repeated n element (at + step) step) (h at)
    (subst (λ (k : ℕ). Follow (at + step) k (repeated n element (at + step) step)) whole (repeated_follow n element (at + step) step h))

mutual
  -- the leaves of a value
  pub slots_follow : (s : Shape) (at : ℕ) → Follow at (at + size s) (slots_at s at)
  slots_follow (int_leaf w) at = let up = next_multiple_of-le ((w + 7) / 8) (int_align w) in (omega arith, omega (arith, up), omega (arith, up))
  slots_follow ptr_leaf at = (omega arith, omega arith, omega arith)
  slots_follow void_leaf at = omega arith
  slots_follow (opaque_leaf label) at = omega arith
  slots_follow (array_of n s) at = repeated_follow n (slots_at s) at (size s) (slots_follow s)
  slots_follow (struct_of label packed ss) at =
      let holds = struct_holds label packed ss in
      follow_wider at (at + 0) (at + end_after packed 0 ss) (at + size (struct_of label packed ss)) (field_slots ss packed at 0) (omega arith) (omega (arith, holds)) (fields_follow ss packed at 0)

  fields_follow : (ss : Shapes) (packed : Bool) (at end : ℕ) → Follow (at + end) (at + end_after packed end ss) (field_slots ss packed at end)
  fields_follow no_shapes packed at end = omega arith
  fields_follow (more_shapes s ss) packed at end =
      let start = field_start packed end (align s) in
      let behind : end ≤ start = field_start-le packed end (align s) in
      let whole : at + start + size s ≡ at + (start + size s) = omega arith in
      follow_wider (at + end) (at + start) (at + end_after packed (start + size s) ss) (at + end_after packed (start + size s) ss) (slots_at s (at + start) ++ field_slots ss packed at (start + size s)) (omega (arith, behind)) (omega arith)
      (follow_both (at + start) (at + (start + size s)) (at + end_after packed (start + size s) ss) (slots_at s (at + start)) (field_slots ss packed at (start + size s))
      (subst (λ (k : ℕ). Follow (at + start) k (slots_at s (at + start))) whole (slots_follow s (at + start))) (fields_follow ss packed at (start + size s)))

-- a value at slots that follow one another
pub zip_order : (from to : ℕ) (ss : List Slot) (vs : List Scalar) → Follow from to ss → AreInOrder from to (zip ss vs)
zip_order from to [] vs h = h
zip_order from to (s ∷ ss) [] h = follow_within from to (s ∷ ss) h
zip_order from to (s ∷ ss) (v ∷ vs) h = (h.0, h.1, zip_order (s.offset + cell.size s.leaf) to ss vs h.2)

-- each leaf is of the kind of its slot
pub zip_stored : (count : ℕ) (ss : List Slot) (vs : List Scalar) → AllZip (IsOf count) (map (λ (s : Slot). s.leaf) ss) vs → AreStored count (zip ss vs)
zip_stored count [] vs h = tt
zip_stored count (s ∷ ss) [] h = absurd h
zip_stored count (s ∷ ss) (v ∷ vs) h = (h.0, zip_stored count ss vs h.1)

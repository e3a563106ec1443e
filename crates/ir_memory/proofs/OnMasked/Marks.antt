-- One bit of a mask is set or cleared.
use Rattle.std.proofs.Common.{◌≡◌, ℕ, ◌*◌, ◌/◌, ◌%◌, ◌^◌, ◌<◌, List, length, set, get_or, sym, ap, ◌∙◌, arith, Bool, true, false, inl, inr, bit_and, bit_or, w64}
use Rattle.std.specs.Prelude.{nat_eq, ◌==◌, ◌≢◌, if◌then◌else◌}
use Rattle.std.specs.Int.{bit_at, bit_not}
use Rattle.std.proofs.lemmas.Bool.{cases_eq}
use Rattle.std.proofs.lemmas.Bool.Decides.{nat_tests}
use Rattle.std.proofs.lemmas.List.{get_or-set_same, get_or-set_other, get_or_default}
use Rattle.std.proofs.lemmas.Nat.Bits.{bit_at_set_same, bit_at_set_other, bit_at_clear_same, bit_at_clear_other}
use Rattle.ir_memory.specs.Masked.Masked.{is_marked}

chosen : (k at : ℕ) (a b : Bool) → k ≡ at → (if k == at then a else b) ≡ a
chosen k at a b e = grind (arith, nat_tests)

passed : (k at : ℕ) (a b : Bool) → k ≢ at → (if k == at then a else b) ≡ b
passed k at a b e = grind (arith, nat_tests)

-- a word is changed in one bit
module _ (words : List ℕ) (at v : ℕ) (to : Bool) (within : at / 64 < length words) where
  here : get_or (set words (at / 64) v) (at / 64) 0 ≡ v
  here = get_or-set_same words (at / 64) v 0 within

  changed_bit : nat_eq (bit_at v (at % 64)) 1 ≡ to → ((i : ℕ) → i < 64 → i ≢ at % 64 → bit_at v i ≡ bit_at (get_or words (at / 64) 0) i)
      → (k : ℕ) → is_marked (set words (at / 64) v) k ≡ (if k == at then to else is_marked words k)
  changed_bit one others k = elim (cases_eq k at) [
    | inl e ↦ ap (λ j. is_marked (set words (at / 64) v) j) e ∙ ap (λ x. nat_eq (bit_at x (at % 64)) 1) here ∙ one ∙ sym (chosen k at to (is_marked words k) e)
    | inr n ↦ elim (cases_eq (k / 64) (at / 64)) [
      | inl s ↦
          ap (λ j. nat_eq (bit_at (get_or (set words (at / 64) v) j 0) (k % 64)) 1) s
          ∙ ap (λ x. nat_eq (bit_at x (k % 64)) 1) here
          ∙ ap (λ b. nat_eq b 1) (others (k % 64) (omega arith) (λ m. n (omega (arith, m, s))))
          ∙ ap (λ j. nat_eq (bit_at (get_or words j 0) (k % 64)) 1) (sym s)
          ∙ sym (passed k at to (is_marked words k) n)
      | inr d ↦
          ap (λ x. nat_eq (bit_at x (k % 64)) 1) (get_or-set_other words (at / 64) (k / 64) v 0 d)
          ∙ sym (passed k at to (is_marked words k) n)
    ]
  ]

pub marked : (words : List ℕ) (at old k : ℕ) → at < 64 * length words → old ≡ get_or words (at / 64) old → is_marked (set words (at / 64) (bit_or old (1 * 2 ^ (at % 64) % 2 ^ 64))) k ≡ (if k == at then true else is_marked words k)
marked words at old k h read =
    let low : at % 64 < 64 = omega arith in
    let within : at / 64 < length words = omega (arith, h) in
    let is : old ≡ get_or words (at / 64) 0 = read ∙ get_or_default words (at / 64) old 0 within in
    changed_bit words at (bit_or old (1 * 2 ^ (at % 64) % 2 ^ 64)) true within
    (ap (λ b. nat_eq b 1) (bit_at_set_same w64 old (at % 64) low))
    (λ i l n. bit_at_set_other w64 old (at % 64) low i n ∙ ap (λ x. bit_at x i) is) k

pub unmarked : (words : List ℕ) (at old k : ℕ) → at < 64 * length words → old ≡ get_or words (at / 64) old → is_marked (set words (at / 64) (bit_and old (bit_not w64 (1 * 2 ^ (at % 64) % 2 ^ 64)))) k ≡ (if k == at then false else is_marked words k)
unmarked words at old k h read =
    let low : at % 64 < 64 = omega arith in
    let within : at / 64 < length words = omega (arith, h) in
    let is : old ≡ get_or words (at / 64) 0 = read ∙ get_or_default words (at / 64) old 0 within in
    changed_bit words at (bit_and old (bit_not w64 (1 * 2 ^ (at % 64) % 2 ^ 64))) false within
    (ap (λ b. nat_eq b 1) (bit_at_clear_same w64 old (at % 64) low))
    (λ i l n. bit_at_clear_other w64 old (at % 64) low i l n ∙ ap (λ x. bit_at x i) is) k

-- The absolute value, from the sign bit.
use Rattle.std.proofs.Common.{◌≡◌, ℕ, suc, ◌+◌, ◌-◌, ◌%◌, ◌^◌, ◌<◌, ◌≤◌, Bool, true, false, ◌&&◌, cond, nat_eq, pos, ap, sym, ◌∙◌, arith, inl, inr}
use Rattle.std.specs.Prelude.{unsigned_abs}
use Rattle.std.proofs.Math.Nat.{mod-eq_of_lt}
use Rattle.std.proofs.lemmas.Bool.{lt-ltb, le-ltb, eq-eqb, ne_eqb, cases_eq}
use Rattle.ir_eval.specs.Value.{IsWidth, has_sign, signed, reduced}
use Rattle.ir_eval.specs.declared.value.Scalar.TheVariants.{Int, Poison}
use Rattle.ir_eval.proofs.Words.{bounds}
use Rattle.ir_eval.proofs.Exact.{difference_down}
use Rattle.ir_intrinsics.specs.Results.{absolute_of}

-- a number without its sign bit is positive
pub absolute_positive : (width number asked : ℕ) (sign : Bool) → IsWidth width → sign ≡ has_sign width number → sign ≡ false → Int number ≡ absolute_of width number asked
absolute_positive width number asked sign w is clear =
    let b = bounds width w in
    let below : number < 2 ^ (width - 1) = grind (arith, is, clear) in
    let t = lt-ltb number (2 ^ (width - 1)) below in
    let u = ne_eqb number (2 ^ (width - 1)) (λ e. omega arith) in
    let m : number % 2 ^ width ≡ number = mod-eq_of_lt (omega (arith, b.double, below)) in
    rw (t, u) (ap Int (sym m))

-- what the code negates
record IsNegated (width number negated : ℕ) : Type 0 where
  high : 2 ^ (width - 1) ≤ number
  is : negated + number ≡ 2 ^ width
  some : 0 < number

negated_by : (width number greatest negated : ℕ) (sign : Bool) → IsWidth width → number < 2 ^ width → sign ≡ has_sign width number → sign ≡ true → greatest ≡ 2 ^ width - 1 → negated ≡ greatest - number + 1 → IsNegated width number negated
negated_by width number greatest negated sign w below is set g n =
    let b = bounds width w in
    let high : 2 ^ (width - 1) ≤ number = grind (arith, is, set) in
    record { high = high; is = omega (arith, below, g, n); some = omega (arith, high, b.positive) }

absolute_is : (width number negated : ℕ) → IsWidth width → number < 2 ^ width → IsNegated width number negated → Int negated ≡ Int (reduced width (pos (unsigned_abs (signed width number))))
absolute_is width number negated w below n =
    let t = le-ltb number (2 ^ (width - 1)) n.high in
    let down = difference_down number (2 ^ width) below in
    let is = n.is in
    let some = n.some in
    let m : negated % 2 ^ width ≡ negated = mod-eq_of_lt (omega (arith, is, some)) in
    let e : suc (2 ^ width - number - 1) ≡ negated = omega (arith, is, below) in
    rw (t, down, e) (ap Int (sym m))

-- the number is the least one exactly where it is its own negation
least_test : (width number negated : ℕ) → IsWidth width → IsNegated width number negated → nat_eq number (2 ^ (width - 1)) ≡ nat_eq negated number
least_test width number negated w n =
    let b = bounds width w in
    let double = b.double in
    let is = n.is in
    elim (cases_eq negated number) [
      | inl same ↦ eq-eqb _ _ (omega (arith, same, double, is)) ∙ sym (eq-eqb _ _ same)
      | inr other ↦ ne_eqb _ _ (λ e. other (omega (arith, e, double, is))) ∙ sym (ne_eqb _ _ other)
    ]

-- the code's test, and what it gives
pub absolute_negative : (width number asked greatest negated : ℕ) (sign : Bool) → IsWidth width → number < 2 ^ width → sign ≡ has_sign width number → sign ≡ true → greatest ≡ 2 ^ width - 1 → negated ≡ greatest - number + 1 → cond (nat_eq negated number && nat_eq asked 1) Poison (Int negated) ≡ absolute_of width number asked
absolute_negative width number asked greatest negated sign w below is set g n =
    let made = negated_by width number greatest negated sign w below is set g n in
    let test = least_test width number negated w made in
    let value = absolute_is width number negated w below made in
    rw test (ap (λ leaf. cond (nat_eq negated number && nat_eq asked 1) Poison leaf) value)

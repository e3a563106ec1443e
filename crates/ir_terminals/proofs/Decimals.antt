-- Numbers that digits write.
use Rattle.std.proofs.Common.{◌≡◌, ℕ, ◌+◌, ◌-◌, ◌*◌, ◌<◌, ◌≤◌, ◌⊎◌, List, [], ◌∷◌, length, drop, get_or, Some, None, nat_lt, refl, ◌∙◌, arith, inl, inr}
use Rattle.std.proofs.lemmas.Bool.{cases_Bool, ltb-true, ltb-false}
use Rattle.std.proofs.lemmas.List.{at_drop_more}
use Rattle.ir_terminals.specs.Digits.{decimal_after, below, decimal}

-- more digits write no smaller number
decimal_grows : (number : ℕ) (digits : List ℕ) → number ≤ decimal_after number digits
decimal_grows number [] = omega arith
decimal_grows number (digit ∷ digits) = let rest = decimal_grows (number * 10 + (digit - 48)) digits in omega (arith, rest)

-- the number of a digit and the digits behind it
decimal_step : (number i : ℕ) (digits : List ℕ) → i < length digits → decimal_after number (drop i digits) ≡ decimal_after (number * 10 + (get_or digits i 0 - 48)) (drop (i + 1) digits)
decimal_step number i digits h = at_drop_more (decimal_after number) digits i 0 h

-- which side of the limit
pub side : (limit n : ℕ) → ((n < limit) × (below limit n ≡ Some n)) ⊎ ((limit ≤ n) × (below limit n ≡ None))
side limit n =
    elim (cases_Bool (nat_lt n limit)) [
      | inl is ↦ inl (ltb-true n limit is, rw is refl)
      | inr is ↦ inr (ltb-false n limit is, rw is refl)
    ]

large : (limit n : ℕ) → limit ≤ n → below limit n ≡ None
large limit n h = elim (side limit n) [ inl (small, _) ↦ absurd (omega arith) | inr (_, e) ↦ e ]

-- a number that a digit makes too large is too large with all digits
too_large : (limit number i : ℕ) (digits : List ℕ) → i < length digits → decimal digits ≡ decimal_after number (drop i digits) → (number * 10 + (get_or digits i 0 - 48) < limit → ⊥) → below limit (decimal digits) ≡ None
too_large limit number i digits h e past =
    let next = number * 10 + (get_or digits i 0 - 48) in
    let more : next ≤ decimal_after next (drop (i + 1) digits) = decimal_grows next (drop (i + 1) digits) in
    let whole : decimal digits ≡ decimal_after next (drop (i + 1) digits) = e ∙ decimal_step number i digits h in
    elim (side limit next) [
      | inl (fits, _) ↦ absurd (past fits)
      | inr (low, _) ↦ large limit _ (rw whole (omega (arith, low, more)))
    ]

-- where ten times the number is too large
pub tens_too_large : (limit number i : ℕ) (digits : List ℕ) → i < length digits → decimal digits ≡ decimal_after number (drop i digits) → (number * 10 < limit → ⊥) → below limit (decimal digits) ≡ None
tens_too_large limit number i digits h e past = too_large limit number i digits h e (λ fits. past (omega (arith, fits)))

-- where that and the value of the digit are too large
pub sum_too_large : (limit number i tens value : ℕ) (digits : List ℕ) → i < length digits → decimal digits ≡ decimal_after number (drop i digits) → tens ≡ number * 10 → value ≡ get_or digits i 0 - 48 → (tens + value < limit → ⊥) → below limit (decimal digits) ≡ None
sum_too_large limit number i tens value digits h e t v past = too_large limit number i digits h e (λ fits. past (omega (arith, t, v, fits)))

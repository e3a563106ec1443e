-- Digits as the standard library tells them, and halves of powers of two.
use Rattle.std.proofs.Common.{◌≡◌, ℕ, zero, suc, ◌+◌, ◌-◌, ◌*◌, ◌/◌, ◌%◌, ◌<◌, ◌≤◌, ◌^◌, nat_lt, Bool, true, false, List, [], ◌∷◌, length, refl, sym, ap, ◌∙◌, append-nil, length-append, arith}
use Rattle.std.specs.Fmt as standard
use Rattle.std.proofs.lemmas.Bool.{ltb-true, ltb-false}
use Rattle.std.proofs.lemmas.Nat.{one_shl}
use Rattle.std.proofs.lemmas.Fmt.{PrependsLastDigit, decimal_from_prepends_wide, decimal_by_steps_wide}
use Rattle.name_rules.specs.Spelled.{digits_before, decimal}
use Rattle.name_rules.proofs.Told.{step}

by_test : (room n : ℕ) (digits : List ℕ) (b : Bool) → nat_lt n 10 ≡ b → digits_before (suc room) n digits ≡ elim b as (λ _. List ℕ) [ true ↦ (48 + n) ∷ digits | false ↦ digits_before room (n / 10) ((48 + n % 10) ∷ digits) ]
by_test room n digits b e = step room n digits ∙ ap (λ t. elim t as (λ _. List ℕ) [ true ↦ (48 + n) ∷ digits | false ↦ digits_before room (n / 10) ((48 + n % 10) ∷ digits) ]) e

less : (n : ℕ) → n < 10 → nat_lt n 10 ≡ true
less n h = by (nat_lt n 10) refl
  where
    by : (b : Bool) → nat_lt n 10 ≡ b → b ≡ true
    by true e = refl
    by false e = let no = ltb-false n 10 e in absurd (omega (arith, h, no))

not_less : (n : ℕ) → 10 ≤ n → nat_lt n 10 ≡ false
not_less n h = by (nat_lt n 10) refl
  where
    by : (b : Bool) → nat_lt n 10 ≡ b → b ≡ false
    by true e = let yes = ltb-true n 10 e in absurd (omega (arith, h, yes))
    by false e = refl

prepends : PrependsLastDigit digits_before
prepends = record {
  one = λ k n digits h. by_test k n digits true (less n h);
  more = λ k n digits h. by_test k n digits false (not_less n h);
}

few : (n : ℕ) → n < 10 ^ 64 → length (standard.decimal n) ≤ n + 1
few = decimal_by_steps_wide (λ m ds. length ds ≤ m + 1) (λ m l. omega arith) (λ m ds l h. omega (arith, length-append ds ((48 + m % 10) ∷ [])))

-- the standard library's digits of a number are its digits here
pub standard_digits : (n : ℕ) → n < 2 ^ 128 → standard.decimal n ≡ decimal n
standard_digits n h = sym (decimal_from_prepends_wide digits_before prepends (suc n) n [] (omega arith) (omega (arith, few n (omega arith))) ∙ append-nil (standard.decimal n))

-- a power of two is its half twice
pub two_halves : (width : ℕ) → 1 ≤ width → 2 ^ width ≡ 2 ^ (width - 1) + 2 ^ (width - 1)
two_halves zero h = absurd (omega arith)
two_halves (suc width) h = let e : suc width - 1 ≡ width = omega arith in rw e (omega arith)

-- the half of a width, as the code shifts it
pub half_is : (width : ℕ) → 1 ≤ width → width ≤ 128 → 1 * 2 ^ (width - 1) % 2 ^ 128 ≡ 2 ^ (width - 1)
half_is width low high = one_shl (width - 1) 128 (omega (arith, low, high))

-- the magnitude of a number from the half on
pub magnitude_is : (width n : ℕ) → 1 ≤ width → 2 ^ (width - 1) ≤ n → 2 ^ width - n ≡ 2 ^ (width - 1) - (n - 2 ^ (width - 1))
magnitude_is width n low h = let whole = two_halves width low in omega (arith, whole, h)

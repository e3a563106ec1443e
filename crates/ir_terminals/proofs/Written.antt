-- The digits of a number.
use Rattle.std.proofs.Common.{◌≡◌, ℕ, zero, suc, ◌<◌, ◌^◌, ◌==◌, ◌&&◌, ◌⊎◌, nat_le, Bool, true, false, List, [], ◌∷◌, length, drop, get_or, refl, arith, rules, inl, inr}
use Rattle.std.proofs.lemmas.Bool.{ne_eqb, and_parts}
use Rattle.std.proofs.lemmas.Fmt.{digits_decimal, digits_value-decimal, decimal_nonempty, first_decimal, decimal_digit}
use Rattle.std.proofs.lemmas.Str.Parse.{IsNumeralModel, IsDigitsTest, numerals_by_fold}
use Rattle.std.specs.Fmt.{decimal as written}
use Rattle.std.specs.List.{list_all}
use Rattle.ir_terminals.specs.Digits.{are_digits, decimal, decimal_after, is_short, IsWritten}

-- each byte is a digit
abbrev pub all_digits : List ℕ → Bool
all_digits bytes = list_all (λ byte. nat_le 48 byte && nat_le byte 57) bytes

tested : IsDigitsTest (λ ds. all_digits ds ≡ true)
tested = search rules

own : IsNumeralModel (λ ds. all_digits ds ≡ true) (decimal_after 0)
own = numerals_by_fold _ tested decimal_after (search rules)

not_empty : (s : List ℕ) → 0 < length s → (length s == 0) ≡ false
not_empty s h = ne_eqb (length s) 0 (λ e. omega (arith, e))

pub are_so : (s : List ℕ) → 0 < length s → all_digits s ≡ true → are_digits s ≡ true
are_so s h e = rw (not_empty s h, e) refl

first_tells : (s : List ℕ) → 0 < length s → 48 < get_or s 0 0 → is_short s ≡ true
first_tells [] h f = absurd (omega arith)
first_tells (x ∷ []) h f = refl
first_tells (x ∷ y ∷ s) h f = rw (ne_eqb x 48 (λ e. omega (arith, e))) refl

short_zero : (n : ℕ) → n < 1 → is_short (written n) ≡ true
short_zero n h = rw (decimal_digit n (omega arith)) refl

pub short_number : (n : ℕ) → (n < 1) ⊎ (0 < n) → n < 2 ^ 64 → is_short (written n) ≡ true
short_number n (inl none) h = short_zero n none
short_number n (inr some) h = first_tells (written n) (decimal_nonempty n h) (first_decimal n some h)

some_or_none : (n : ℕ) → (n < 1) ⊎ (0 < n)
some_or_none zero = inl (omega arith)
some_or_none (suc n) = inr (omega arith)

-- what the library writes of a number
pub number_written : (n : ℕ) → n < 2 ^ 64 → IsWritten n (written n)
number_written n h = record {
  digits_are = are_so (written n) (decimal_nonempty n h) (digits_decimal own n h);
  value = digits_value-decimal own n h;
  short = short_number n (some_or_none n) h;
}

pub digits_all : (s : List ℕ) → are_digits s ≡ true → all_digits s ≡ true
digits_all s h = (and_parts _ _ h).1

pub all_behind : (i : ℕ) (s : List ℕ) → all_digits s ≡ true → all_digits (drop i s) ≡ true
all_behind zero [] h = refl
all_behind zero (x ∷ s) h = h
all_behind (suc i) [] h = refl
all_behind (suc i) (x ∷ s) h = all_behind i s (and_parts _ _ h).1

-- a number that is not zero has a digit
pub some_digit : (i : ℕ) (s : List ℕ) → 0 < decimal (drop i s) → i < length s
some_digit zero [] h = absurd (omega arith)
some_digit zero (x ∷ s) h = omega arith
some_digit (suc i) [] h = absurd (omega arith)
some_digit (suc i) (x ∷ s) h = omega (arith, some_digit i s h)

first_other : (s : List ℕ) → 0 < length s → (get_or s 0 0 == 48) ≡ false → is_short s ≡ true
first_other [] h f = absurd (omega arith)
first_other (x ∷ []) h f = refl
first_other (x ∷ y ∷ s) h f = rw f refl

get_behind : (i : ℕ) (s : List ℕ) → get_or (drop i s) 0 0 ≡ get_or s i 0
get_behind zero [] = refl
get_behind zero (x ∷ s) = refl
get_behind (suc i) [] = refl
get_behind (suc i) (x ∷ s) = get_behind i s

-- digits behind zeros
pub zeros_dropped : (i : ℕ) (s : List ℕ) → are_digits s ≡ true → 0 < length (drop i s) → decimal (drop i s) ≡ decimal s → (get_or s i 0 == 48) ≡ false → IsWritten (decimal s) (drop i s)
zeros_dropped i s d h e f = record {
  digits_are = are_so (drop i s) h (all_behind i s (digits_all s d));
  value = e;
  short = first_other (drop i s) h (rw (get_behind i s) f);
}

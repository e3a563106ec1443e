-- Numbers that digits write, digit by digit.
use Rattle.std.proofs.Common.{◌≡◌, ℕ, ◌+◌, ◌-◌, ◌*◌, ◌<◌, ◌≤◌, true, false, List, [], ◌∷◌, length, get_or, drop, Some, None, nat_le, refl, ap, ◌∙◌, arith}
use Rattle.std.proofs.lemmas.Bool.{le-leb, lt-leb}
use Rattle.std.proofs.lemmas.List.{at_drop_more, drop_all}
use Rattle.ir_printf.specs.Pattern.{decimal_after, small_number}

-- a number grows with each digit
pub decimal_grows : (number : ℕ) (digits : List ℕ) → number ≤ decimal_after number digits
decimal_grows number [] = omega arith
decimal_grows number (digit ∷ digits) = let rest = decimal_grows (number * 10 + (digit - 48)) digits in omega (arith, rest)

-- the next digit
pub decimal_step : (number i : ℕ) (digits : List ℕ) → i < length digits → decimal_after number (drop i digits) ≡ decimal_after (number * 10 + (get_or digits i 0 - 48)) (drop (i + 1) digits)
decimal_step number i digits h = at_drop_more (decimal_after number) digits i 0 h

-- a number that is small enough, and one that is not
pub small_enough : (number : ℕ) (digits : List ℕ) → decimal_after 0 digits ≡ number → number ≤ 4095 → Some number ≡ small_number digits
unfolding small_number
small_enough number digits e h = let test : nat_le number 4095 ≡ true = le-leb number 4095 h in rw (e, test) refl

pub not_small : (number : ℕ) (digits : List ℕ) → decimal_after 0 digits ≡ number → 4095 < number → None ≡ small_number digits
unfolding small_number
not_small number digits e h = let test : nat_le number 4095 ≡ false = lt-leb number 4095 h in rw (e, test) refl

-- a number that the next digit makes too large is too large with all digits
pub too_large : (number i : ℕ) (digits : List ℕ) → i < length digits → decimal_after 0 digits ≡ decimal_after number (drop i digits) → 4095 < number * 10 + (get_or digits i 0 - 48) → None ≡ small_number digits
too_large number i digits h e large =
    let next = number * 10 + (get_or digits i 0 - 48) in
    let more : next ≤ decimal_after next (drop (i + 1) digits) = decimal_grows next (drop (i + 1) digits) in
    not_small _ digits (e ∙ decimal_step number i digits h) (omega (arith, more, large))

-- the invariant behind one more digit
pub further : (number i : ℕ) (digits : List ℕ) → i < length digits → decimal_after 0 digits ≡ decimal_after number (drop i digits) → decimal_after 0 digits ≡ decimal_after (number * 10 + (get_or digits i 0 - 48)) (drop (i + 1) digits)
further number i digits h e = e ∙ decimal_step number i digits h

-- behind the last digit
pub at_the_end : (number i : ℕ) (digits : List ℕ) → length digits ≤ i → decimal_after 0 digits ≡ decimal_after number (drop i digits) → number ≤ 4095 → Some number ≡ small_number digits
at_the_end number i digits h e small = small_enough number digits (e ∙ ap (decimal_after number) (drop_all i digits h)) small

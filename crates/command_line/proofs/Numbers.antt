-- Of decimal numbers.
use Rattle.std.proofs.Common.{◌≡◌, ℕ, ◌+◌, ◌-◌, ◌*◌, ◌^◌, ◌<◌, ◌≤◌, ◌==◌, Bool, true, false, cond, nat_le, ◌&&◌, List, [], ◌∷◌, length, get_or, drop, Option, Some, None, refl, sym, ◌∙◌, arith}
use Rattle.std.specs.List.{list_all}
use Rattle.std.specs.Char.{is_ascii_digit}
use Rattle.std.proofs.lemmas.List.{at_drop_more}
use Rattle.command_line.specs.Numbers.{decimal_onto, leads_with_zero, number_of}

-- the number that digits spell behind n, where all are digits and it is not too large
abbrev pub number_onto : ℕ → List ℕ → Option ℕ
number_onto n bytes = cond (list_all is_ascii_digit bytes && nat_le (decimal_onto n bytes) (2 ^ 32)) (Some (decimal_onto n bytes)) None

pub from_nothing : (digits : List ℕ) → 0 < length digits → leads_with_zero digits ≡ false → number_of digits ≡ number_onto 0 digits
from_nothing digits h plain =
    let some : (length digits == 0) ≡ false = grind arith in
    rw (some, plain) refl

pub decimal_grows : (n : ℕ) (bs : List ℕ) → n ≤ decimal_onto n bs
decimal_grows n [] = omega arith
decimal_grows n (b ∷ bs) = let h = decimal_grows (10 * n + (b - 48)) bs in omega arith

both_cases : (p q : Bool) (x : ℕ) → q ≡ false → cond (p && q) (Some x) None ≡ None
both_cases true q x h = rw h
both_cases false q x h = refl

-- what is too large stays so
pub too_large : (n : ℕ) (bs : List ℕ) → 2 ^ 32 < n → number_onto n bs ≡ None
too_large n bs h = let g = decimal_grows n bs in let e : nat_le (decimal_onto n bs) (2 ^ 32) ≡ false = grind arith in both_cases _ _ _ e

pub no_digit : (n b : ℕ) (bs : List ℕ) → is_ascii_digit b ≡ false → number_onto n (b ∷ bs) ≡ None
no_digit n b bs h = rw h

pub one_digit : (n b : ℕ) (bs : List ℕ) → is_ascii_digit b ≡ true → number_onto n (b ∷ bs) ≡ number_onto (10 * n + (b - 48)) bs
one_digit n b bs h = rw h

-- a front that spells too much
pub passed : (digits : List ℕ) (n i : ℕ) → i < length digits → is_ascii_digit (get_or digits i 0) ≡ true → 2 ^ 32 < 10 * n + (get_or digits i 0 - 48) → number_onto n (drop i digits) ≡ number_onto 0 digits → None ≡ number_onto 0 digits
passed digits n i h digit large rest =
    sym (too_large _ (drop (i + 1) digits) large) ∙ sym (one_digit n (get_or digits i 0) (drop (i + 1) digits) digit) ∙ sym (at_drop_more (number_onto n) digits i 0 h) ∙ rest

-- For `of_digits`, `to_u64`, `to_u128` and `digits` of `Number`: numbers in decimal.
use Rattle.std.specs.Prelude.{◌≡◌, ℕ, ◌+◌, ◌-◌, ◌*◌, ◌==◌, ◌&&◌, nat_lt, nat_le, Bool, true, false, not, List, [], ◌∷◌, length, Option, Some, None, if◌then◌else◌}
use Rattle.std.specs.List.{list_all}

-- at least one byte, and each is a digit
abbrev pub are_digits : List ℕ → Bool
are_digits bytes = not (length bytes == 0) && list_all (λ byte. nat_le 48 byte && nat_le byte 57) bytes

-- the number that the digits write behind those of a number
abbrev pub decimal_after : ℕ → List ℕ → ℕ
decimal_after number [] = number
decimal_after number (digit ∷ digits) = decimal_after (number * 10 + (digit - 48)) digits

-- the number that the digits write
abbrev pub decimal : List ℕ → ℕ
decimal digits = decimal_after 0 digits

-- a number where it is below the limit
abbrev pub below : ℕ → ℕ → Option ℕ
below limit number = if nat_lt number limit then Some number else None

-- no zero stands before other digits
abbrev pub is_short : List ℕ → Bool
is_short [] = false
is_short (digit ∷ []) = true
is_short (digit ∷ _ ∷ _) = not (digit == 48)

-- the digits that write the number, with no zero before them: `0` for zero
pub record IsWritten (number : ℕ) (digits : List ℕ) : Type 0 where
  pub digits_are : are_digits digits ≡ true
  pub value : decimal digits ≡ number
  pub short : is_short digits ≡ true

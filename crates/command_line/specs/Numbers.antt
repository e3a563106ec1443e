-- For `read_words`: decimal numbers.
use Rattle.std.specs.Prelude.{ℕ, ◌+◌, ◌-◌, ◌*◌, Bool, false, not, ◌&&◌, ◌==◌, nat_le, List, [], ◌∷◌, length, Option, Some, None, if◌then◌else◌}
use Rattle.std.specs.List.{list_all}
use Rattle.std.specs.Char.{is_ascii_digit}
use Rattle.command_line.specs.declared.number.TheConstants.{LARGEST_NUMBER}

-- the number that digits spell behind others that spell n
abbrev pub decimal_onto : ℕ → List ℕ → ℕ
decimal_onto n [] = n
decimal_onto n (digit ∷ digits) = decimal_onto (10 * n + (digit - 48)) digits

-- the number that digits spell
abbrev pub decimal : List ℕ → ℕ
decimal digits = decimal_onto 0 digits

-- there are two digits or more, and the first is zero
abbrev pub leads_with_zero : List ℕ → Bool
leads_with_zero [] = false
leads_with_zero (digit ∷ []) = false
leads_with_zero (digit ∷ next ∷ digits) = digit == 48

-- decimal digits, at least one, that spell at most the largest number, with no zero before other digits
abbrev pub is_number : List ℕ → Bool
is_number word = not (length word == 0) && not (leads_with_zero word) && (list_all is_ascii_digit word && nat_le (decimal word) LARGEST_NUMBER)

-- the number that a word is
abbrev pub number_of : List ℕ → Option ℕ
number_of word = if is_number word then Some (decimal word) else None

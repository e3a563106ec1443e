-- Says how the code reads: the digits of a width in the name of an intrinsic.
use Rattle.std.specs.Prelude.{ℕ, ◌+◌, ◌-◌, ◌*◌, List, [], ◌∷◌, Option, Some, None, Bool, ◌&&◌, ◌==◌, nat_le, nat_lt, length, slice_index, if◌then◌else◌}
use Rattle.ir_tables.specs.declared.width.TheConstants.{WIDEST}

-- one of the bytes `0` to `9`
abbrev pub is_digit : ℕ → Bool
is_digit byte = nat_le 48 byte && nat_le byte 57

-- the number that three digits write
abbrev pub number_of : ℕ → ℕ → ℕ → ℕ
number_of hundreds tens ones = (hundreds - 48) * 100 + (tens - 48) * 10 + (ones - 48)

-- a width is from 1 to that of the widest integer
abbrev pub within : ℕ → Option ℕ
within width = if nat_le 1 width && nat_le width WIDEST then Some width else None

-- the number of three digits
abbrev pub width_of_digits : ℕ → ℕ → ℕ → Option ℕ
width_of_digits hundreds tens ones = if is_digit hundreds && (is_digit tens && is_digit ones) then within (number_of hundreds tens ones) else None

-- the first of several digits is zero
abbrev pub is_padded : List ℕ → Bool
is_padded digits = nat_lt 1 (length digits) && (slice_index digits 0 == 48)

-- the number of one, two or three digits
abbrev pub width_of_all : List ℕ → Option ℕ
width_of_all (ones ∷ []) = width_of_digits 48 48 ones
width_of_all (tens ∷ ones ∷ []) = width_of_digits 48 tens ones
width_of_all (hundreds ∷ tens ∷ ones ∷ []) = width_of_digits hundreds tens ones
width_of_all _ = None

-- the width that digits write, without leading zeros
unfoldable pub width_of : List ℕ → Option ℕ
width_of digits = if is_padded digits then None else width_of_all digits

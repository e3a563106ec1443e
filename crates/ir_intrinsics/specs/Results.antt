-- For `apply`: the results of the integer intrinsics, on whole numbers without bound (LangRef, "Bit Manipulation
-- Intrinsics", "Standard C/C++ Library Intrinsics", "Saturation Arithmetic Intrinsics", "Arithmetic with Overflow
-- Intrinsics").
use Rattle.std.specs.Prelude.{ℕ, zero, suc, ◌+◌, ◌-◌, ◌*◌, ◌/◌, ◌%◌, ◌^◌, ◌==◌, min, max, Bool, true, false, not, ◌&&◌, ℤ, pos, ◌+ℤ◌, ◌-ℤ◌, ◌*ℤ◌, int_le, unsigned_abs, count_ones, Some, None, if◌then◌else◌}
use Rattle.std.specs.Int.{saturate_to_bits}
use lib.Count.{count_leading_zeros, count_trailing_zeros}
use Rattle.ir_tables.specs.declared.intrinsic.Intrinsic.{Intrinsic}
use Rattle.ir_tables.specs.declared.intrinsic.Intrinsic.TheVariants.{Ctpop, Bswap, Bitreverse, Ctlz, Cttz, Abs, Smin, Smax, Umin, Umax, SaddSat, UaddSat, SsubSat, UsubSat, SaddWithOverflow, UaddWithOverflow, SsubWithOverflow, UsubWithOverflow, SmulWithOverflow, UmulWithOverflow, Fshl, Fshr}
use Rattle.ir_eval.specs.Value.{signed, reduced, fits_signed, fits_unsigned}
use Rattle.ir_eval.specs.Compare.{truth}
use Rattle.ir_eval.specs.declared.value.Scalar.{Scalar}
use Rattle.ir_eval.specs.declared.value.Scalar.TheVariants.{Int, Poison}
use Rattle.ir_intrinsics.specs.declared.outcome.Outcome.{Outcome}

-- so many lowest digits of a number in a base, the other way round: the lowest becomes the highest
unfoldable pub reversed_digits : ℕ → ℕ → ℕ → ℕ
reversed_digits base zero number = 0
reversed_digits base (suc count) number = (number % base) * base ^ count + reversed_digits base count (number / base)

-- zeros above the highest set bit, and below the lowest; where no bit is set the second operand may ask for poison
abbrev pub leading_zeros_of : ℕ → ℕ → ℕ → Scalar
leading_zeros_of width number asked = if (number == 0) && (asked == 1) then Poison else Int (count_leading_zeros width number)

-- how many zeros the number ends with; poison for zero where that is asked
abbrev pub trailing_zeros_of : ℕ → ℕ → ℕ → Scalar
trailing_zeros_of width number asked = if (number == 0) && (asked == 1) then Poison else Int (count_trailing_zeros width number)

-- the number without its sign, modulo 2^width; at the least number the second operand may ask for poison
abbrev pub absolute_of : ℕ → ℕ → ℕ → Scalar
absolute_of width number asked =
    if (number == 2 ^ (width - 1)) && (asked == 1) then Poison
    else Int (reduced width (pos (unsigned_abs (signed width number))))

-- the least and the greatest of two, read with sign
abbrev pub least_of : ℕ → ℕ → ℕ → Scalar
least_of width a b = Int (if int_le (signed width a) (signed width b) then a else b)

-- the greater of two signed numbers
abbrev pub greatest_of : ℕ → ℕ → ℕ → Scalar
greatest_of width a b = Int (if int_le (signed width a) (signed width b) then b else a)

-- the nearest number from -2^(width - 1) to 2^(width - 1) - 1
abbrev pub signed_saturated : ℕ → ℤ → Scalar
signed_saturated width exact = Int (reduced width (saturate_to_bits (width - 1) exact))

-- the number modulo 2^width, and whether the exact one is out of the range
abbrev pub overflowing_of : ℕ → ℤ → Bool → Outcome
overflowing_of width whole fits = record { first = Int (reduced width whole); second = Some (truth (not fits)) }

-- two numbers as one of twice the width
abbrev pub joined_of : ℕ → ℕ → ℕ → ℕ
joined_of width high low = high * 2 ^ width + low

-- the high half after a shift up
abbrev pub shifted_up_of : ℕ → ℕ → ℕ → ℕ → ℕ
shifted_up_of width high low amount = (joined_of width high low * 2 ^ amount) % 2 ^ (width + width) / 2 ^ width

-- the low half after a shift down
abbrev pub shifted_down_of : ℕ → ℕ → ℕ → ℕ → ℕ
shifted_down_of width high low amount = joined_of width high low / 2 ^ amount % 2 ^ width

-- one leaf
abbrev pub one : Scalar → Outcome
one first = record { first = first; second = None }

-- what each gives of numbers; a sum without sign that saturates stops at the greatest number, a difference at 0
abbrev pub numbers : Intrinsic → ℕ → ℕ → ℕ → ℕ → Outcome
numbers Ctpop width a b c = one (Int (count_ones a))
numbers Bswap width a b c = one (Int (reversed_digits 256 (width / 8) a))
numbers Bitreverse width a b c = one (Int (reversed_digits 2 width a))
numbers Ctlz width a b c = one (leading_zeros_of width a b)
numbers Cttz width a b c = one (trailing_zeros_of width a b)
numbers Abs width a b c = one (absolute_of width a b)
numbers Smin width a b c = one (least_of width a b)
numbers Smax width a b c = one (greatest_of width a b)
numbers Umin width a b c = one (Int (min a b))
numbers Umax width a b c = one (Int (max a b))
numbers SaddSat width a b c = one (signed_saturated width (signed width a +ℤ signed width b))
numbers UaddSat width a b c = one (Int (min (a + b) (2 ^ width - 1)))
numbers SsubSat width a b c = one (signed_saturated width (signed width a -ℤ signed width b))
numbers UsubSat width a b c = one (Int (a - b))
numbers SaddWithOverflow width a b c = overflowing_of width (pos a +ℤ pos b) (fits_signed width (signed width a +ℤ signed width b))
numbers UaddWithOverflow width a b c = overflowing_of width (pos a +ℤ pos b) (fits_unsigned width (pos a +ℤ pos b))
numbers SsubWithOverflow width a b c = overflowing_of width (pos a -ℤ pos b) (fits_signed width (signed width a -ℤ signed width b))
numbers UsubWithOverflow width a b c = overflowing_of width (pos a -ℤ pos b) (fits_unsigned width (pos a -ℤ pos b))
numbers SmulWithOverflow width a b c = overflowing_of width (pos a *ℤ pos b) (fits_signed width (signed width a *ℤ signed width b))
numbers UmulWithOverflow width a b c = overflowing_of width (pos a *ℤ pos b) (fits_unsigned width (pos a *ℤ pos b))
numbers Fshl width a b c = one (Int (shifted_up_of width a b (c % width)))
numbers Fshr width a b c = one (Int (shifted_down_of width a b (c % width)))

-- it gives two leaves
abbrev pub has_second : Intrinsic → Bool
has_second SaddWithOverflow = true
has_second UaddWithOverflow = true
has_second SsubWithOverflow = true
has_second UsubWithOverflow = true
has_second SmulWithOverflow = true
has_second UmulWithOverflow = true
has_second _ = false

-- poison in every leaf
abbrev pub poisoned : Intrinsic → Outcome
poisoned which = record { first = Poison; second = if has_second which then Some Poison else None }

-- a poison operand gives poison in every leaf
unfoldable pub apply_of : Intrinsic → ℕ → Scalar → Scalar → Scalar → Outcome
apply_of which width (Int a) (Int b) (Int c) = numbers which width a b c
apply_of which width _ _ _ = poisoned which

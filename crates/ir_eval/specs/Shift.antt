-- For `binary`: shifts (LangRef, "shl Instruction", "lshr Instruction", "ashr Instruction"). A shift by at least the
-- width gives poison.
use Rattle.std.specs.Prelude.{ℕ, ◌/◌, ◌%◌, ◌^◌, pos, ◌*ℤ◌, not, ◌&&◌, ◌==◌, nat_le, if◌then◌else◌}
use Rattle.std.specs.Int.{int_div_euclid}
use Rattle.ir_tables.specs.declared.flag.Flag.TheVariants.{Exact}
use Rattle.ir_tables.specs.Flags.{has_flag}
use Rattle.ir_eval.specs.Value.{signed, reduced}
use Rattle.ir_eval.specs.Arithmetic.{arithmetic}
use Rattle.ir_eval.specs.declared.value.Scalar.{Scalar}
use Rattle.ir_eval.specs.declared.value.Scalar.TheVariants.{Int, Poison}

-- the product with 2^amount
abbrev pub shifted_left_of : ℕ → ℕ → ℕ → ℕ → Scalar
shifted_left_of flags width number amount =
    if nat_le width amount then Poison
    else arithmetic flags width (pos number *ℤ pos (2 ^ amount)) (signed width number *ℤ pos (2 ^ amount))

-- the quotient by 2^amount, rounded down; `exact` asks that no set bit is shifted out
abbrev pub shifted_right_of : ℕ → ℕ → ℕ → ℕ → Scalar
shifted_right_of flags width number amount =
    if nat_le width amount then Poison
    else if has_flag flags Exact && not (number % 2 ^ amount == 0) then Poison
    else Int (number / 2 ^ amount)

-- the same of the number with its sign
abbrev pub signed_shifted_right_of : ℕ → ℕ → ℕ → ℕ → Scalar
signed_shifted_right_of flags width number amount =
    if nat_le width amount then Poison
    else if has_flag flags Exact && not (number % 2 ^ amount == 0) then Poison
    else Int (reduced width (int_div_euclid (signed width number) (pos (2 ^ amount))))

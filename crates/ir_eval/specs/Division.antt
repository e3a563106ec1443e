-- For `binary`: quotients and remainders (LangRef, "udiv Instruction", "sdiv Instruction", "urem Instruction", "srem
-- Instruction"). The divisor is not zero.
use Rattle.std.specs.Prelude.{ℕ, ◌/◌, ◌%◌, pos, int_div, int_rem, not, ◌&&◌, ◌==◌, Result, Ok, Err, if◌then◌else◌}
use Rattle.std.specs.Ordering.{int_eq}
use Rattle.ir_tables.specs.declared.flag.Flag.TheVariants.{Exact}
use Rattle.ir_tables.specs.declared.undefined_kind.UndefinedKind.{UndefinedKind}
use Rattle.ir_tables.specs.declared.undefined_kind.UndefinedKind.TheVariants.{DivisionOverflow}
use Rattle.ir_tables.specs.Flags.{has_flag}
use Rattle.ir_eval.specs.Value.{signed, reduced, fits_signed}
use Rattle.ir_eval.specs.declared.value.Scalar.{Scalar}
use Rattle.ir_eval.specs.declared.value.Scalar.TheVariants.{Int, Poison}

-- `udiv`
abbrev pub quotient_of : ℕ → ℕ → ℕ → Scalar
quotient_of flags a b = if has_flag flags Exact && not (a % b == 0) then Poison else Int (a / b)

-- `urem`
abbrev pub remainder_of : ℕ → ℕ → Scalar
remainder_of a b = Int (a % b)

-- rounded toward zero; the least value has no quotient by -1
abbrev pub signed_quotient_of : ℕ → ℕ → ℕ → ℕ → Result Scalar UndefinedKind
signed_quotient_of flags width a b =
    if not (fits_signed width (int_div (signed width a) (signed width b))) then Err DivisionOverflow
    else if has_flag flags Exact && not (int_eq (int_rem (signed width a) (signed width b)) (pos 0)) then Ok Poison
    else Ok (Int (reduced width (int_div (signed width a) (signed width b))))

-- with the sign of the dividend; undefined where the quotient is
abbrev pub signed_remainder_of : ℕ → ℕ → ℕ → Result Scalar UndefinedKind
signed_remainder_of width a b =
    if not (fits_signed width (int_div (signed width a) (signed width b))) then Err DivisionOverflow
    else Ok (Int (reduced width (int_rem (signed width a) (signed width b))))

-- For `binary`: sums, differences and products (LangRef, "add Instruction", "sub Instruction", "mul Instruction").
use Rattle.std.specs.Prelude.{ℕ, ℤ, pos, ◌+ℤ◌, ◌-ℤ◌, ◌*ℤ◌, not, ◌&&◌, if◌then◌else◌}
use Rattle.ir_tables.specs.declared.flag.Flag.TheVariants.{Nuw, Nsw}
use Rattle.ir_tables.specs.Flags.{has_flag}
use Rattle.ir_eval.specs.Value.{signed, reduced, fits_unsigned, fits_signed}
use Rattle.ir_eval.specs.declared.value.Scalar.{Scalar}
use Rattle.ir_eval.specs.declared.value.Scalar.TheVariants.{Int, Poison}

-- The exact result, without and with sign, reduced to the width. `nuw` asks that the first fits, `nsw` that
-- the second does.
unfoldable pub arithmetic : ℕ → ℕ → ℤ → ℤ → Scalar
arithmetic flags width unsigned_exact signed_exact =
    if has_flag flags Nuw && not (fits_unsigned width unsigned_exact) then Poison
    else if has_flag flags Nsw && not (fits_signed width signed_exact) then Poison
    else Int (reduced width unsigned_exact)

-- `add`
abbrev pub sum_of : ℕ → ℕ → ℕ → ℕ → Scalar
sum_of flags width a b = arithmetic flags width (pos a +ℤ pos b) (signed width a +ℤ signed width b)

-- `sub`
abbrev pub difference_of : ℕ → ℕ → ℕ → ℕ → Scalar
difference_of flags width a b = arithmetic flags width (pos a -ℤ pos b) (signed width a -ℤ signed width b)

-- `mul`
abbrev pub product_of : ℕ → ℕ → ℕ → ℕ → Scalar
product_of flags width a b = arithmetic flags width (pos a *ℤ pos b) (signed width a *ℤ signed width b)

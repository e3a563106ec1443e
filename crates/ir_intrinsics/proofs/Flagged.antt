-- Overflow by the instruction with a flag.
use Rattle.std.proofs.Common.{◌≡◌, ℕ, Bool, true, false, not, cond, ℤ, pos, ◌+ℤ◌, ◌-ℤ◌, ◌*ℤ◌, Some, Ok, refl, ap}
use Rattle.ir_tables.specs.declared.opcode.Opcode.{Opcode}
use Rattle.ir_tables.specs.declared.opcode.Opcode.TheVariants.{Add, Sub, Mul}
use Rattle.ir_tables.specs.declared.flag.Flag.{Flag}
use Rattle.ir_tables.specs.declared.flag.Flag.TheVariants.{Nuw, Nsw, Exact, Disjoint, Nneg, Samesign, Inbounds, Nusw, Volatile}
use Rattle.ir_tables.specs.Flag.{flag_code}
use Rattle.ir_tables.specs.Flags.{flags_with}
use Rattle.ir_eval.specs.Operators.{binary_of}
use Rattle.ir_eval.specs.Value.{signed, reduced, fits_signed, fits_unsigned}
use Rattle.ir_eval.specs.Arithmetic.{arithmetic}
use Rattle.ir_eval.specs.Compare.{truth}
use Rattle.ir_eval.specs.declared.value.Scalar.{Scalar}
use Rattle.ir_eval.specs.declared.value.Scalar.TheVariants.{Int, Poison}
use Rattle.ir_intrinsics.specs.declared.outcome.Outcome.{Outcome}
use Rattle.ir_intrinsics.specs.Exact.{told_of, is_poison, exact_of, is_exact_operation}
use Rattle.ir_intrinsics.specs.Results.{overflowing_of}

poison_test : (fits : Bool) (number : ℕ) → is_poison (cond (not fits) Poison (Int number)) ≡ not fits
poison_test true number = refl
poison_test false number = refl

told : (width : ℕ) (whole : ℤ) (kept : Scalar) (fits : Bool) → is_poison kept ≡ not fits → record { first = Int (reduced width whole); second = Some (truth (is_poison kept)) } ≡ overflowing_of width whole fits
told width whole kept fits e = ap (λ (lost : Bool). told_outcome width whole lost) e where
  told_outcome : ℕ → ℤ → Bool → Outcome
  told_outcome width whole lost = record { first = Int (reduced width whole); second = Some (truth lost) }

by_sign : (width : ℕ) (u s : ℤ) → is_poison (arithmetic 2 width u s) ≡ not (fits_signed width s)
unfolding arithmetic
by_sign width u s = poison_test (fits_signed width s) (reduced width u)

without_sign : (width : ℕ) (u s : ℤ) → is_poison (arithmetic 1 width u s) ≡ not (fits_unsigned width u)
unfolding arithmetic
without_sign width u s = poison_test (fits_unsigned width u) (reduced width u)

-- a set of one flag
pub with_none : (flag : Flag) → flags_with 0 flag ≡ flag_code flag
with_none Nuw = refl
with_none Nsw = refl
with_none Exact = refl
with_none Disjoint = refl
with_none Nneg = refl
with_none Samesign = refl
with_none Inbounds = refl
with_none Nusw = refl
with_none Volatile = refl

-- a sum, a difference and a product are never undefined
pub binary_exact : (op : Opcode) (flags width a b : ℕ) → is_exact_operation op ≡ true → binary_of op flags width (Int a) (Int b) ≡ Ok (exact_of op flags width a b)
unfolding binary_of
binary_exact Add flags width a b is = refl
binary_exact Sub flags width a b is = refl
binary_exact Mul flags width a b is = refl
binary_exact _ flags width a b is = absurd (cc)

-- the code's answer for each row of the table
pub told_sum_signed : (width a b : ℕ) → told_of Add 2 width a b ≡ overflowing_of width (pos a +ℤ pos b) (fits_signed width (signed width a +ℤ signed width b))
unfolding told_of arithmetic
told_sum_signed width a b = told width (pos a +ℤ pos b) _ _ (by_sign width (pos a +ℤ pos b) (signed width a +ℤ signed width b))

pub told_sum : (width a b : ℕ) → told_of Add 1 width a b ≡ overflowing_of width (pos a +ℤ pos b) (fits_unsigned width (pos a +ℤ pos b))
unfolding told_of arithmetic
told_sum width a b = told width (pos a +ℤ pos b) _ _ (without_sign width (pos a +ℤ pos b) (signed width a +ℤ signed width b))

pub told_difference_signed : (width a b : ℕ) → told_of Sub 2 width a b ≡ overflowing_of width (pos a -ℤ pos b) (fits_signed width (signed width a -ℤ signed width b))
unfolding told_of arithmetic
told_difference_signed width a b = told width (pos a -ℤ pos b) _ _ (by_sign width (pos a -ℤ pos b) (signed width a -ℤ signed width b))

pub told_difference : (width a b : ℕ) → told_of Sub 1 width a b ≡ overflowing_of width (pos a -ℤ pos b) (fits_unsigned width (pos a -ℤ pos b))
unfolding told_of arithmetic
told_difference width a b = told width (pos a -ℤ pos b) _ _ (without_sign width (pos a -ℤ pos b) (signed width a -ℤ signed width b))

pub told_product_signed : (width a b : ℕ) → told_of Mul 2 width a b ≡ overflowing_of width (pos a *ℤ pos b) (fits_signed width (signed width a *ℤ signed width b))
unfolding told_of arithmetic
told_product_signed width a b = told width (pos a *ℤ pos b) _ _ (by_sign width (pos a *ℤ pos b) (signed width a *ℤ signed width b))

pub told_product : (width a b : ℕ) → told_of Mul 1 width a b ≡ overflowing_of width (pos a *ℤ pos b) (fits_unsigned width (pos a *ℤ pos b))
unfolding told_of arithmetic
told_product width a b = told width (pos a *ℤ pos b) _ _ (without_sign width (pos a *ℤ pos b) (signed width a *ℤ signed width b))

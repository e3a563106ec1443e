-- Quotients and remainders with sign, as the code computes them.
use Rattle.std.proofs.Common.{◌≡◌, ◌≢◌, ℕ, true, false, ℤ, pos, negsuc, Option, Some, None, Ok, ap, sym, ◌∙◌, arith, inl, inr}
use Rattle.std.specs.Prelude.{FitsSigned, int_div, int_rem}
use Rattle.std.specs.Option.{SomeIff, option_map_or}
use Rattle.std.specs.Ordering.{int_eq}
use Rattle.std.specs.Int.{w128, cast_unsigned, cast_signed}
use Rattle.std.proofs.lemmas.Int.{to_z-of_z, rem_is}
use Rattle.std.proofs.lemmas.Bool.{ltb-true, cases_Bool}
use Rattle.std.proofs.lemmas.Bool.Decides.{Decides-int_eq}
use Rattle.ir_tables.specs.Flags.{has_flag}
use Rattle.ir_tables.specs.declared.flag.Flag.TheVariants.{Exact}
use Rattle.ir_eval.specs.Value.{IsWidth, signed, reduced, fits_signed}
use Rattle.ir_eval.specs.Division.{signed_quotient_of}
use Rattle.ir_eval.specs.declared.value.Scalar.TheVariants.{Int, Poison}
use Rattle.ir_eval.proofs.Words.{bounds}
use Rattle.ir_eval.proofs.Exact.{IsKept}

-- the number that the code holds and passes on
abbrev passed : ℤ → ℤ
passed z = cast_signed w128 (cast_unsigned w128 z)

pub quotient_fits : (width : ℕ) (quotient : ℤ) (exact : Option ℤ) (P : Type 0) → SomeIff exact P quotient → true ≡ option_map_or (fits_signed width) exact false → fits_signed width quotient ≡ true
quotient_fits width quotient None P iff fits = absurd (cc)
quotient_fits width quotient (Some number) P iff fits = ap (fits_signed width) (sym iff.1) ∙ sym fits

pub fits_word : (width : ℕ) (z : ℤ) → IsWidth width → fits_signed width z ≡ true → FitsSigned w128 z
fits_word width (pos n) w fits = let b = bounds width w in let below = ltb-true _ _ fits in record { sfits = omega (arith, b.most) }
fits_word width (negsuc n) w fits = let b = bounds width w in let below = ltb-true _ _ fits in record { sfits = omega (arith, b.most) }

-- the test of the code on a remainder
pub no_remainder : (x y : ℤ) → FitsSigned w128 x → FitsSigned w128 y → cast_unsigned w128 (int_rem (passed x) (passed y)) ≡ 0 → int_rem x y ≡ pos 0
no_remainder x y fits_x fits_y zero_word = sym (rem_is w128 x y fits_x fits_y) ∙ ap (cast_signed w128) zero_word

pub some_remainder : (x y : ℤ) → FitsSigned w128 x → FitsSigned w128 y → cast_unsigned w128 (int_rem (passed x) (passed y)) ≢ 0 → int_eq (int_rem x y) (pos 0) ≡ false
some_remainder x y fits_x fits_y word =
    elim (cases_Bool (int_eq (int_rem x y) (pos 0))) [
      | inl same ↦
          let e : int_rem x y ≡ pos 0 = (Decides-int_eq (int_rem x y) (pos 0)).0 same in
          let is_x : passed x ≡ x = to_z-of_z w128 x fits_x in
          let is_y : passed y ≡ y = to_z-of_z w128 y fits_y in
          absurd (word (ap (λ z. cast_unsigned w128 (int_rem z (passed y))) is_x ∙ ap (λ z. cast_unsigned w128 (int_rem x z)) is_y ∙ ap (cast_unsigned w128) e))
      | inr other ↦ other
    ]

pub quotient_passed : (x y : ℤ) → FitsSigned w128 x → FitsSigned w128 y → int_div (passed x) (passed y) ≡ int_div x y
quotient_passed x y fits_x fits_y = ap (λ z. int_div z (passed y)) (to_z-of_z w128 x fits_x) ∙ ap (int_div x) (to_z-of_z w128 y fits_y)

pub lost_exact : (flags width a b : ℕ) (s t : ℤ) → s ≡ signed width a → t ≡ signed width b → fits_signed width (int_div s t) ≡ true → has_flag flags Exact ≡ true → int_eq (int_rem s t) (pos 0) ≡ false → Ok Poison ≡ signed_quotient_of flags width a b
lost_exact flags width a b s t is_s is_t fits has rest = rw (← is_s, ← is_t, fits, has, rest)

pub kept_exact : (flags width a b number : ℕ) (s t : ℤ) → s ≡ signed width a → t ≡ signed width b → fits_signed width (int_div s t) ≡ true → IsKept (has_flag flags Exact) (int_eq (int_rem s t) (pos 0)) → number ≡ reduced width (int_div s t) → Ok (Int number) ≡ signed_quotient_of flags width a b
kept_exact flags width a b number s t is_s is_t fits exact_kept e = rw (← is_s, ← is_t, fits, exact_kept, e)

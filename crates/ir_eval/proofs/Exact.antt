-- Exact results against what the code computes in words of 64 and of 128 bits.
use Rattle.std.proofs.Common.{◌≡◌, ℕ, ◌+◌, ◌-◌, ◌%◌, ◌^◌, ◌<◌, ◌≤◌, Bool, true, false, not, ◌&&◌, cond, ltb, ℤ, pos, negsuc, ◌-ℤ◌, Option, Some, None, refl, ap, sym, ◌∙◌, arith, inl, inr}
use Rattle.std.proofs.lemmas.Nat.{pow_pos}
use Rattle.std.specs.Prelude.{FitsSigned}
use Rattle.std.specs.Option.{SomeIff, option_map_or}
use Rattle.std.specs.Int.{Width, w128, cast_unsigned, cast_signed}
use mir.Val.{hbits}
use Rattle.std.proofs.lemmas.Int.{ints, to_z-of_z}
use Rattle.std.proofs.lemmas.Bool.{cases_lt, le-ltb, lt-ltb}
use Rattle.ir_tables.specs.Flags.{has_flag}
use Rattle.ir_tables.specs.declared.flag.Flag.TheVariants.{Nuw, Nsw}
use Rattle.ir_eval.specs.Value.{IsWidth, reduced, fits_unsigned, fits_signed}
use Rattle.ir_eval.specs.Arithmetic.{arithmetic}
use Rattle.ir_eval.specs.declared.value.Scalar.TheVariants.{Int, Poison}
use Rattle.ir_eval.proofs.Words.{bounds}

-- ---- what the flags ask

pub lost_unsigned : (flags width : ℕ) (u s : ℤ) → has_flag flags Nuw ≡ true → fits_unsigned width u ≡ false → Poison ≡ arithmetic flags width u s
unfolding arithmetic
lost_unsigned flags width u s has lost = rw (has, lost)

pub lost_signed : (flags width : ℕ) (u s : ℤ) → has_flag flags Nsw ≡ true → fits_signed width s ≡ false → Poison ≡ arithmetic flags width u s
unfolding arithmetic
lost_signed flags width u s has lost =
    rw (has, lost) (elim (has_flag flags Nuw && not (fits_unsigned width u)) as (λ v. Poison ≡ cond v Poison Poison) [ true ↦ refl | false ↦ refl ])

-- the flag is not there, or what it asks holds
abbrev pub IsKept : Bool → Bool → Type 0
IsKept has fits = (has && not fits) ≡ false

pub not_asked : (has fits : Bool) → has ≡ false → IsKept has fits
not_asked has fits none = rw none

pub fitting : (has fits : Bool) → fits ≡ true → IsKept has fits
fitting has fits fit = rw fit (elim has as (λ v. (v && false) ≡ false) [ true ↦ refl | false ↦ refl ])

pub kept : (flags width number : ℕ) (u s : ℤ) → IsKept (has_flag flags Nuw) (fits_unsigned width u) → IsKept (has_flag flags Nsw) (fits_signed width s) → number ≡ reduced width u → Int number ≡ arithmetic flags width u s
unfolding arithmetic
kept flags width number u s unsigned_kept signed_kept e = rw (unsigned_kept, signed_kept) (ap Int e)

-- ---- exact results that are there or not

pub unsigned_exact : (width n : ℕ) (exact : Option ℕ) → IsWidth width → SomeIff exact (n < 2 ^ 128) n → option_map_or (λ number. ltb number (2 ^ width)) exact false ≡ fits_unsigned width (pos n)
unsigned_exact width n None w past =
    let small : 2 ^ width ≤ 2 ^ 128 = let b = bounds width w in omega (arith, b.double, b.most) in
    elim (cases_lt n (2 ^ width)) [ inl below ↦ absurd (past (omega arith)) | inr above ↦ sym (le-ltb n (2 ^ width) above) ]
unsigned_exact width n (Some number) w is = ap (λ x. ltb x (2 ^ width)) is.1

-- with sign, in words that have each number of the width
pub signed_exact : (word : Width) (width : ℕ) (z : ℤ) (exact : Option ℤ) → 2 ^ (width - 1) ≤ 2 ^ hbits word → SomeIff exact (FitsSigned word z) z → option_map_or (fits_signed width) exact false ≡ fits_signed width z
signed_exact word width (pos n) None room past =
    elim (cases_lt n (2 ^ (width - 1))) [ inl below ↦ absurd (past (record { sfits = omega (arith, room) })) | inr above ↦ sym (le-ltb _ _ above) ]
signed_exact word width (negsuc n) None room past =
    elim (cases_lt n (2 ^ (width - 1))) [ inl below ↦ absurd (past (record { sfits = omega (arith, room) })) | inr above ↦ sym (le-ltb _ _ above) ]
signed_exact word width z (Some number) room is = ap (fits_signed width) is.1

-- an operation on two numbers with sign, as the code gives it to a checked call
pub signed_operation : (word : Width) (op : ℤ → ℤ → ℤ) (width : ℕ) (x y s t : ℤ) (exact : Option ℤ) → 2 ^ (width - 1) ≤ 2 ^ hbits word → FitsSigned word x → FitsSigned word y → x ≡ s → y ≡ t → SomeIff exact (FitsSigned word (op (cast_signed word (cast_unsigned word x)) (cast_signed word (cast_unsigned word y)))) (op (cast_signed word (cast_unsigned word x)) (cast_signed word (cast_unsigned word y))) → option_map_or (fits_signed width) exact false ≡ fits_signed width (op s t)
signed_operation word op width x y s t exact room fits_x fits_y is_x is_y iff =
    signed_exact word width _ exact room iff
    ∙ ap (λ z. fits_signed width (op z (cast_signed word (cast_unsigned word y)))) (to_z-of_z word x fits_x ∙ is_x)
    ∙ ap (λ z. fits_signed width (op s z)) (to_z-of_z word y fits_y ∙ is_y)

-- ---- differences

pub difference_up : (a b : ℕ) → b ≤ a → pos a -ℤ pos b ≡ pos (a - b)
difference_up a b above = omega (arith, ints)

pub difference_down : (a b : ℕ) → a < b → pos a -ℤ pos b ≡ negsuc (b - a - 1)
difference_down a b below = omega (arith, ints)

pub difference_exact : (width a b : ℕ) (exact : Option ℕ) → a < 2 ^ width → SomeIff exact (b ≤ a) (a - b) → option_map_or (λ number. ltb number (2 ^ width)) exact false ≡ fits_unsigned width (pos a -ℤ pos b)
difference_exact width a b None small past = elim (cases_lt a b) [ inl below ↦ rw (difference_down a b below) | inr above ↦ absurd (past above) ]
difference_exact width a b (Some number) small is = ap (λ x. ltb x (2 ^ width)) is.1 ∙ sym (ap (fits_unsigned width) (difference_up a b is.0))

pub difference_word : (a b : ℕ) → a < 2 ^ 128 → b < 2 ^ 128 → (a + (2 ^ 128 - b)) % 2 ^ 128 ≡ reduced 128 (pos a -ℤ pos b)
difference_word a b small_a small_b =
    elim (cases_lt a b) [
      | inl below ↦ rw (difference_down a b below) (omega arith)
      | inr above ↦ rw (difference_up a b above) (omega arith)
    ]

-- ---- numbers with sign, as the code passes them

pub signed_known : (width : ℕ) (z s : ℤ) → FitsSigned w128 z → z ≡ s → fits_signed width (cast_signed w128 (cast_unsigned w128 z)) ≡ fits_signed width s
signed_known width z s fits is = ap (fits_signed width) (to_z-of_z w128 z fits ∙ is)

pub above_greatest : (width greatest number : ℕ) → greatest ≡ 2 ^ width - 1 → greatest < number → fits_unsigned width (pos number) ≡ false
above_greatest width greatest number e above = le-ltb number (2 ^ width) (omega arith)

pub within_greatest : (width greatest number : ℕ) → greatest ≡ 2 ^ width - 1 → number ≤ greatest → fits_unsigned width (pos number) ≡ true
within_greatest width greatest number e within = let positive = pow_pos width in lt-ltb number (2 ^ width) (omega arith)

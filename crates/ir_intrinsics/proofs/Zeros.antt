-- Zeros in a word of 128 bits and in a number of a width.
use Rattle.std.proofs.Common.{◌≡◌, ℕ, zero, suc, ◌+◌, ◌-◌, ◌/◌, ◌%◌, ◌^◌, ◌<◌, ◌≤◌, inl, inr, refl, ap, sym, ◌∙◌, arith, lit≤}
use lib.Count.{count_leading_zeros, count_trailing_zeros, under}
use Rattle.std.proofs.lemmas.Nat.{leading_top, trailing_le}
use Rattle.std.specs.Prelude.{min}
use Rattle.std.proofs.Math.Nat.{pow-le-pow_right, pow-succ'}
use Rattle.std.proofs.lemmas.Bool.{cases_lt}
use Rattle.ir_eval.specs.Value.{IsWidth}

leading_none : (k : ℕ) → count_leading_zeros k 0 ≡ k
unfolding count_leading_zeros
leading_none zero = refl
leading_none (suc k) = refl

pub trailing_none : (k : ℕ) → count_trailing_zeros k 0 ≡ k
unfolding count_trailing_zeros
trailing_none zero = refl
trailing_none (suc k) = ap suc (trailing_none k)

one_top : (i j a : ℕ) → 2 ^ i ≤ a → a < 2 ^ suc j → i ≤ j
one_top i j a low high = elim (cases_lt j i) [
  | inl above ↦ let more : 2 ^ suc j ≤ 2 ^ i = pow-le-pow_right (lit≤ tt) above in absurd (omega arith)
  | inr within ↦ within
]

-- a wider number has more zeros above
leading_more : (m width a : ℕ) → a < 2 ^ width → count_leading_zeros (m + width) a ≡ m + count_leading_zeros width a
leading_more m width zero below = leading_none (m + width) ∙ ap (λ n. m + n) (sym (leading_none width))
leading_more m width (suc n) below =
    let more : 2 ^ width ≤ 2 ^ (m + width) = pow-le-pow_right (lit≤ tt) (omega arith) in
    let (i, e, low_i, high_i) = leading_top width (suc n) (omega arith) below in
    let (j, f, low_j, high_j) = leading_top (m + width) (suc n) (omega arith) (omega (arith, more, below)) in
    let ij = one_top i j (suc n) low_i high_j in
    let ji = one_top j i (suc n) low_j high_i in
    omega (arith, e, f, ij, ji)

under_same : (d t u : ℕ) → (d ≡ 0 → t ≡ u) → under d t ≡ under d u
under_same zero t u h = ap suc (h refl)
under_same (suc d) t u h = refl

-- and as many below
trailing_more : (m width a : ℕ) → 0 < a → a < 2 ^ width → count_trailing_zeros (width + m) a ≡ count_trailing_zeros width a
unfolding count_trailing_zeros
trailing_more m zero a some below = absurd (omega (arith, some, below))
trailing_more m (suc k) a some below =
    let e : suc k + m ≡ suc (k + m) = omega arith in
    let double = pow-succ' 2 k in
    ap (λ n. count_trailing_zeros n a) e
    ∙ under_same (a % 2) (count_trailing_zeros (k + m) (a / 2)) (count_trailing_zeros k (a / 2)) (λ even. trailing_more m k (a / 2) (omega (arith, some, even)) (omega (arith, below, double)))

-- the count of the word, less the bits above the width
pub record IsCounted (width number : ℕ) : Type 0 where
  pub leading : count_leading_zeros 128 number ≡ 128 - width + count_leading_zeros width number
  pub trailing : 0 < number → count_trailing_zeros 128 number ≡ count_trailing_zeros width number

pub counted : (width number : ℕ) → IsWidth width → number < 2 ^ width → IsCounted width number
counted width number w below =
    let e : 128 - width + width ≡ 128 = omega (arith, w.most) in
    let f : width + (128 - width) ≡ 128 = omega (arith, w.most) in
    record {
      leading = ap (λ n. count_leading_zeros n number) (sym e) ∙ leading_more (128 - width) width number below;
      trailing = λ some. ap (λ n. count_trailing_zeros n number) (sym f) ∙ trailing_more (128 - width) width number some below;
    }

pub trailing_least : (width number : ℕ) → IsWidth width → number < 2 ^ width → min (count_trailing_zeros 128 number) width ≡ count_trailing_zeros width number
trailing_least width zero w below =
    let a = trailing_none 128 in
    let b = trailing_none width in
    rw (a, b) (grind (arith, w.most))
trailing_least width (suc n) w below =
    let t = (counted width (suc n) w below).trailing (omega arith) in
    let few = trailing_le width (suc n) in
    rw t (grind (arith, few))

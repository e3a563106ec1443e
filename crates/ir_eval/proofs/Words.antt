-- Integers of a width in words of 128 bits, and of up to 64 in words of 64 bits.
use Rattle.std.proofs.Common.{◌≡◌, ℕ, zero, suc, ◌+◌, ◌-◌, ◌*◌, ◌/◌, ◌%◌, ◌^◌, ◌<◌, ◌≤◌, true, ltb, ℤ, pos, negsuc, ◌-ℤ◌, ap, sym, ◌∙◌, arith, inl, inr, lit≤}
use Rattle.std.proofs.Math.Nat.{pow-succ', pow-le-pow_right}
use Rattle.std.proofs.Math.Pow.{mod-mod-pow}
use Rattle.std.proofs.lemmas.Nat.{pow_pos, pow-add, div-add-mod', mod_below, div_below, mod-mul-add}
use Rattle.std.proofs.lemmas.Int.{ints}
use Rattle.std.proofs.lemmas.Nat.Bits.{ones_shr}
use Rattle.std.proofs.lemmas.Bool.{cases_lt, lt-ltb, le-ltb, le-leb, lt-leb}
use Rattle.std.specs.Prelude.{FitsSigned}
use Rattle.std.specs.Int.{Width, w128}
use lib.Signed.{le_z}
use mir.Val.{of_z, hbits}
use Rattle.ir_eval.specs.Value.{IsWidth, reduced, fits_signed, has_sign}

-- the powers that bound the numbers of a width
pub record IsBounded (width : ℕ) : Type 0 where
  pub double : 2 ^ width ≡ 2 * 2 ^ (width - 1)
  pub positive : 0 < 2 ^ (width - 1)
  pub most : 2 ^ (width - 1) ≤ 2 ^ 127

pub bounds : (width : ℕ) → IsWidth width → IsBounded width
bounds width w =
    let e : width ≡ suc (width - 1) = omega (arith, w.some) in
    record {
      double = ap (λ k. 2 ^ k) e ∙ pow-succ' 2 (width - 1);
      positive = pow_pos (width - 1);
      most = let small : width - 1 ≤ 127 = omega (arith, w.most) in pow-le-pow_right (lit≤ tt) small;
    }

-- the numbers with sign of a width up to 64 are among those of a word of 64 bits
pub short_bound : (width : ℕ) → width ≤ 64 → 2 ^ (width - 1) ≤ 2 ^ 63
short_bound width short = let small : width - 1 ≤ 63 = omega (arith, short) in pow-le-pow_right (lit≤ tt) small

-- the greatest number of a width, out of the greatest of a word
pub greatest_is : (word width : ℕ) → width ≤ word → (2 ^ word - 1) / 2 ^ (word - width) ≡ 2 ^ width - 1
greatest_is word width within =
    let e : word - (word - width) ≡ width = omega arith in
    ones_shr word (word - width) (omega arith) ∙ ap (λ k. 2 ^ k - 1) e

-- half of the greatest number is the greatest number without a sign bit
pub half : (width greatest : ℕ) → IsWidth width → greatest ≡ 2 ^ width - 1 → greatest / 2 + 1 ≡ 2 ^ (width - 1)
half width greatest w e = let b = bounds width w in omega (arith, b.double, b.positive)

pub has_sign_is : (width greatest number : ℕ) → IsWidth width → greatest ≡ 2 ^ width - 1 → ltb (greatest / 2) number ≡ has_sign width number
has_sign_is width greatest number w e =
    let h = half width greatest w e in
    elim (cases_lt (greatest / 2) number) [
      | inl above ↦ lt-ltb _ _ above ∙ sym (le-leb (2 ^ (width - 1)) number (omega arith))
      | inr below ↦ le-ltb _ _ below ∙ sym (lt-leb (2 ^ (width - 1)) number (omega arith))
    ]

complement_mod : (q p m : ℕ) → m < q * p → 0 < p → (q * p - 1 - m) % p ≡ p - 1 - m % p
complement_mod q p m below positive =
    let parts = div-add-mod' m p in
    let rest : m % p < p = mod_below m p positive in
    let whole : m / p < q = div_below m p q positive below in
    let e : q ≡ m / p + 1 + (q - 1 - m / p) = omega arith in
    let product : q * p ≡ (m / p + 1 + (q - 1 - m / p)) * p = ap (λ x. x * p) e in
    let split : q * p - 1 - m ≡ (q - 1 - m / p) * p + (p - 1 - m % p) = omega arith in
    ap (λ x. x % p) split ∙ mod-mul-add (q - 1 - m / p) p (p - 1 - m % p) (omega arith)

complement_low : (k width n : ℕ) → (2 ^ (k + width) - 1 - n % 2 ^ (k + width)) % 2 ^ width ≡ 2 ^ width - 1 - n % 2 ^ width
complement_low k width n =
    let e = pow-add 2 k width in
    let below : n % 2 ^ (k + width) < 2 ^ (k + width) = mod_below n _ (pow_pos (k + width)) in
    let below' : n % 2 ^ (k + width) < 2 ^ k * 2 ^ width = omega arith in
    ap (λ x. (x - 1 - n % 2 ^ (k + width)) % 2 ^ width) e
    ∙ complement_mod (2 ^ k) (2 ^ width) (n % 2 ^ (k + width)) below' (pow_pos width)
    ∙ ap (λ x. 2 ^ width - 1 - x) (mod-mod-pow n k width)

-- the low bits of a word that is congruent to a whole number modulo 2^128 are those of the whole number
pub low_bits_of_word : (width : ℕ) (whole : ℤ) → IsWidth width → reduced 128 whole % 2 ^ width ≡ reduced width whole
low_bits_of_word width (pos n) w =
    let e : 128 ≡ (128 - width) + width = omega (arith, w.most) in
    ap (λ k. n % 2 ^ k % 2 ^ width) e ∙ mod-mod-pow n (128 - width) width
low_bits_of_word width (negsuc n) w =
    let e : 128 ≡ (128 - width) + width = omega (arith, w.most) in
    ap (λ k. (2 ^ k - 1 - n % 2 ^ k) % 2 ^ width) e ∙ complement_low (128 - width) width n

pub cast_is_reduced : (whole : ℤ) → FitsSigned w128 whole → of_z w128 whole ≡ reduced 128 whole
cast_is_reduced (pos n) fits = let small = fits.sfits in omega arith
cast_is_reduced (negsuc n) fits = let small = fits.sfits in omega arith

least_is : (h n : ℕ) → le_z (negsuc 0 -ℤ pos h) (negsuc n) ≡ true → n ≤ h
least_is h n least = grind (arith, ints)

pub fits_signed_is : (width greatest : ℕ) (whole : ℤ) → IsWidth width → greatest ≡ 2 ^ width - 1 → le_z (negsuc 0 -ℤ pos (greatest / 2)) whole ≡ true → le_z whole (pos (greatest / 2)) ≡ fits_signed width whole
fits_signed_is width greatest (pos n) w e least =
    let h = half width greatest w e in
    elim (cases_lt n (2 ^ (width - 1))) [
      | inl below ↦ le-leb n (greatest / 2) (omega arith) ∙ sym (lt-ltb _ _ below)
      | inr above ↦ lt-leb n (greatest / 2) (omega arith) ∙ sym (le-ltb _ _ above)
    ]
fits_signed_is width greatest (negsuc n) w e least =
    let h = half width greatest w e in
    let above = least_is (greatest / 2) n least in
    sym (lt-ltb n (2 ^ (width - 1)) (omega arith))

-- one below the negative of a number
pub below_zero_fits : (word : Width) (h : ℕ) → h < 2 ^ hbits word → FitsSigned word (negsuc 0 -ℤ pos h)
below_zero_fits word zero small = record { sfits = omega arith }
below_zero_fits word (suc h) small = record { sfits = omega arith }

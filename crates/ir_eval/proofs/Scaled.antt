-- A number times 2^amount fits a width exactly where the number fits the bits that the shift leaves.
use Rattle.std.proofs.Common.{◌≡◌, ℕ, zero, suc, ◌+◌, ◌-◌, ◌*◌, ◌^◌, ◌<◌, ◌≤◌, ltb, ℤ, pos, negsuc, neg_ℤ, ◌*ℤ◌, ap, sym, ◌∙◌, arith, inl, inr}
use Rattle.std.proofs.lemmas.Nat.{pow_pos, pow-add, mul-le}
use Rattle.std.proofs.lemmas.Bool.{cases_lt, le-ltb, lt-ltb, lt-leb}
use Rattle.ir_eval.specs.Value.{fits_unsigned, fits_signed, signed}
use Rattle.ir_eval.specs.Arithmetic.{arithmetic}
use Rattle.ir_eval.specs.Shift.{shifted_left_of}
use Rattle.ir_eval.specs.declared.value.Scalar.{Scalar}

scaled_below : (n m bound : ℕ) → 0 < m → ltb (n * m) (bound * m) ≡ ltb n bound
scaled_below n m bound positive =
    elim (cases_lt n bound) [
      | inl below ↦ let more = mul-le (suc n) m bound m (omega arith) (omega arith) in lt-ltb _ _ (omega arith) ∙ sym (lt-ltb _ _ below)
      | inr above ↦ le-ltb _ _ (mul-le bound m n m above (omega arith)) ∙ sym (le-ltb _ _ above)
    ]

-- -(n + 1) times m is -((n + 1) * m - 1 + 1)
scaled_negative : (n m bound : ℕ) → 0 < m → ltb (suc n * m - 1) (bound * m) ≡ ltb n bound
scaled_negative n m bound positive =
    elim (cases_lt n bound) [
      | inl below ↦ let more = mul-le (suc n) m bound m (omega arith) (omega arith) in lt-ltb _ _ (omega arith) ∙ sym (lt-ltb _ _ below)
      | inr above ↦ let more = mul-le bound m n m above (omega arith) in le-ltb _ _ (omega arith) ∙ sym (le-ltb _ _ above)
    ]

split_power : (width amount : ℕ) → amount ≤ width → 2 ^ width ≡ 2 ^ (width - amount) * 2 ^ amount
split_power width amount within = let e : width ≡ (width - amount) + amount = omega arith in ap (λ k. 2 ^ k) e ∙ pow-add 2 (width - amount) amount

pub fits_unsigned-scaled : (width number amount : ℕ) → amount < width → fits_unsigned width (pos number *ℤ pos (2 ^ amount)) ≡ fits_unsigned (width - amount) (pos number)
fits_unsigned-scaled width number amount within = ap (ltb (number * 2 ^ amount)) (split_power width amount (omega arith)) ∙ scaled_below number (2 ^ amount) (2 ^ (width - amount)) (pow_pos amount)

negative_product : (n m : ℕ) → 0 < m → negsuc n *ℤ pos m ≡ negsuc (suc n * m - 1)
negative_product n m positive =
    let more = mul-le (suc zero) (suc zero) (suc n) m (omega arith) positive in
    let e : suc n * m ≡ suc (suc n * m - 1) = omega arith in
    ap (λ k. neg_ℤ (pos k)) e

pub fits_signed-scaled : (width amount : ℕ) (z : ℤ) → amount < width → fits_signed width (z *ℤ pos (2 ^ amount)) ≡ fits_signed (width - amount) z
fits_signed-scaled width amount (pos n) within =
    let e : width - 1 - amount ≡ width - amount - 1 = omega arith in
    ap (ltb (n * 2 ^ amount)) (split_power (width - 1) amount (omega arith)) ∙ scaled_below n (2 ^ amount) (2 ^ (width - 1 - amount)) (pow_pos amount) ∙ ap (λ k. ltb n (2 ^ k)) e
fits_signed-scaled width amount (negsuc n) within =
    let e : width - 1 - amount ≡ width - amount - 1 = omega arith in
    ap (fits_signed width) (negative_product n (2 ^ amount) (pow_pos amount))
    ∙ ap (ltb (suc n * 2 ^ amount - 1)) (split_power (width - 1) amount (omega arith)) ∙ scaled_negative n (2 ^ amount) (2 ^ (width - 1 - amount)) (pow_pos amount) ∙ ap (λ k. ltb n (2 ^ k)) e

-- a shift by less than the width
pub shifted_left_within : (flags width number amount : ℕ) (result : Scalar) → amount < width → result ≡ arithmetic flags width (pos number *ℤ pos (2 ^ amount)) (signed width number *ℤ pos (2 ^ amount)) → result ≡ shifted_left_of flags width number amount
shifted_left_within flags width number amount result within e = let t = lt-leb width amount within in rw t e

-- What was written is read back, and what is read is spelled so.
use Rattle.std.proofs.Common.{◌≡◌, ℕ, zero, suc, ◌+◌, ◌-◌, ◌*◌, ◌/◌, ◌%◌, ◌^◌, ◌<◌, ◌≤◌, Bool, true, false, List, [], ◌∷◌, ◌++◌, length, take, drop, Ok, Err, IfOk, refl, sym, ap, ◌∙◌, arith, append_assoc, inl, inr, length-append, leb, ◌||◌, if◌then◌else◌}
use Rattle.std.proofs.lemmas.List.{take_at, drop_at, get_or_at, length-take-le, take_more}
use Rattle.std.proofs.lemmas.Bool.{cases_lt, ltb-false}
use Rattle.std.proofs.Math.Nat.{mod-eq_of_lt, mul_comm}
use Rattle.std.proofs.Math.Pow.{pow_mono}
use Rattle.std.proofs.Math.Seq.{take-add}
use Rattle.std.proofs.lemmas.Nat.{pow_pos, shr_split, shr_below}
use Rattle.bit_stream.specs.declared.bits.fault.BitFaultKind.{BitFaultKind}
use Rattle.bit_stream.specs.declared.bits.fault.BitFaultKind.TheVariants.{Truncated, VbrTooLong}
use Rattle.bit_stream.specs.Bits.Bits.{value, bits_of}
use Rattle.bit_stream.specs.Bits.Reading.{Read, fixed_at, vbr_from, vbr_at, with_chunk}
use Rattle.bit_stream.specs.Bits.Writing.{vbr_bits}
use Rattle.bit_stream.specs.Bits.Chunked.{chunked, chunked_number, IsVbr}
use Rattle.bit_stream.proofs.OnBits.BitsLaws.{length-bits_of, value-bits_of, bits_of-value, value-take}
use Rattle.bit_stream.proofs.OnBits.ReaderSteps.{fixed_whole}
use Rattle.bit_stream.proofs.OnBits.Chunks.{data_of, more_of, vbr_last, vbr_next}
use Rattle.bit_stream.proofs.OnBits.Appends.{vbr_end, vbr_again, rest-lt}

pub fixed_back : (w n : ℕ) (rest : List Bool) → n < 2 ^ w → fixed_at w (bits_of w n ++ rest) ≡ Ok (n, length (bits_of w n))
fixed_back w n rest h =
    let size = length-bits_of w n in
    rw (fixed_whole w (bits_of w n ++ rest) (omega (arith, length-append (bits_of w n) rest)), take_at (bits_of w n) rest w size, value-bits_of, mod-eq_of_lt h, size) refl

front_data : (w : ℕ) (c : List Bool) (b : Bool) (r : List Bool) → length c ≡ w - 1 → data_of w (c ++ b ∷ r) ≡ value c
front_data w c b r h = rw (take_at c (b ∷ r) (w - 1) h) refl

front_more : (w : ℕ) (c : List Bool) (b : Bool) (r : List Bool) → length c ≡ w - 1 → more_of w (c ++ b ∷ r) ≡ b
front_more w c b r h = get_or_at c b r false (w - 1) h

front_rest : (w : ℕ) (c : List Bool) (b : Bool) (r : List Bool) → 0 < w → length c ≡ w - 1 → drop w (c ++ b ∷ r) ≡ r
front_rest w c b r some h = ap (drop w) (sym (append_assoc c (b ∷ []) r)) ∙ drop_at (c ++ b ∷ []) r w (omega (arith, length-append c (b ∷ [])))

front_size : (w : ℕ) (c : List Bool) (b : Bool) (r : List Bool) → 0 < w → length c ≡ w - 1 → length (c ++ b ∷ r) ≡ w + length r
front_size w c b r some h = omega (arith, length-append c (b ∷ r))

-- a number below 2 ^ a that is not below 2 ^ b
below_power : (n a b : ℕ) → 2 ^ b ≤ n → n < 2 ^ a → b < a
below_power n a b big small = elim (cases_lt b a) [ inl h ↦ h | inr h ↦ let more : 2 ^ a ≤ 2 ^ b = pow_mono h in absurd (omega arith) ]

vbr_one : (more w k n : ℕ) (rest : List Bool) → 2 ≤ w → k < 64 → n < 2 ^ (64 - k) → n < 2 ^ (w - 1)
    → vbr_from (suc more) w k (vbr_bits more w n ++ rest) ≡ Ok (n, length (vbr_bits more w n))
vbr_one more w k n rest low early fits small =
    let c = bits_of (w - 1) n in
    let size : length c ≡ w - 1 = length-bits_of (w - 1) n in
    let number : data_of w (c ++ false ∷ rest) ≡ n = front_data w c false rest size ∙ value-bits_of (w - 1) n ∙ mod-eq_of_lt small in
    let last = vbr_last more w k (c ++ false ∷ rest) (omega (arith, front_size w c false rest (omega arith) size)) early (omega (arith, number)) (front_more w c false rest size) in
    let whole : length (c ++ false ∷ []) ≡ w = omega (arith, front_size w c false [] (omega arith) size) in
    rw (vbr_end more w n small, append_assoc, last, number, whole) refl

pub vbr_back : (more w k n : ℕ) (rest : List Bool) → 2 ≤ w → k < 64 → n < 2 ^ (64 - k) → n < 2 ^ suc more
    → vbr_from (suc more) w k (vbr_bits more w n ++ rest) ≡ Ok (n, length (vbr_bits more w n))
vbr_back zero w k n rest low early fits small =
    let size : 1 ≤ w - 1 = omega arith in
    let bound : 2 ^ 1 ≤ 2 ^ (w - 1) = pow_mono size in
    vbr_one zero w k n rest low early fits (omega arith)
vbr_back (suc more) w k n rest low early fits small = elim (cases_lt n (2 ^ (w - 1))) [
  | inl h ↦ vbr_one (suc more) w k n rest low early fits h
  | inr h ↦
      let c = bits_of (w - 1) n in
      let n' = n / 2 ^ (w - 1) in
      let tail = vbr_bits more w n' ++ rest in
      let size : length c ≡ w - 1 = length-bits_of (w - 1) n in
      let number : data_of w (c ++ true ∷ tail) ≡ n % 2 ^ (w - 1) = front_data w c true tail size ∙ value-bits_of (w - 1) n in
      let room : w - 1 < 64 - k = below_power n (64 - k) (w - 1) h fits in
      let left : 64 - (k + (w - 1)) + (w - 1) ≡ 64 - k = omega arith in
      let fits' : n' < 2 ^ (64 - (k + (w - 1))) = shr_below n (64 - (k + (w - 1))) (w - 1) (rw left fits) in
      let next = vbr_next (suc more) w k (c ++ true ∷ tail) (omega (arith, front_size w c true tail (omega arith) size)) early (omega (arith, number, pow_pos (w - 1), shr_split n (w - 1))) (front_more w c true tail size) in
      let again = vbr_back more w (k + (w - 1)) n' rest low (omega arith) fits' (rest-lt (suc more) w n low small) in
      let sum : n % 2 ^ (w - 1) + 2 ^ (w - 1) * n' ≡ n = omega (arith, shr_split n (w - 1), mul_comm (2 ^ (w - 1)) n') in
      rw (vbr_again more w n h, append_assoc, next, number, front_rest w c true tail (omega arith) size, again, sum, front_size w c true (vbr_bits more w n') (omega arith) size) refl
]

-- what is read is spelled so

pub record Spelled (w : ℕ) (bits : List Bool) (read : Read) : Type 0 where
  pub is : IfOk read (λ x. IsVbr w (take x.1 bits) x.0)

spelled_pick : (w : ℕ) (bits : List Bool) (b : Bool) (x y : Read) → (b ≡ true → Spelled w bits x) → (b ≡ false → Spelled w bits y) → Spelled w bits (if b then x else y)
spelled_pick w bits true x y f g = f refl
spelled_pick w bits false x y f g = g refl

spelled_err : (w : ℕ) (bits : List Bool) (e : BitFaultKind) → Spelled w bits (Err e)
spelled_err w bits e = record { is = tt }

-- a whole chunk is its data, and the bit above
chunk_is : (w : ℕ) (bits : List Bool) (b : Bool) → 0 < w → w ≤ length bits → more_of w bits ≡ b → take w bits ≡ bits_of (w - 1) (data_of w bits) ++ b ∷ []
chunk_is w bits b some whole more =
    let next : w - 1 + 1 ≡ w = omega arith in
    let size : length (take (w - 1) bits) ≡ w - 1 = length-take-le (w - 1) bits (omega arith) in
    let front = rw size at (bits_of-value (take (w - 1) bits)) in
    ap (λ (n : ℕ). take n bits) (sym next) ∙ rw (take_more bits (w - 1) false (omega arith), more, front) refl

value-small : (w : ℕ) (bits : List Bool) → data_of w bits < 2 ^ (w - 1)
value-small w bits = omega (arith, value-take (w - 1) bits, pow_pos (w - 1))

spelled_last : (w : ℕ) (bits : List Bool) → 0 < w → w ≤ length bits → more_of w bits ≡ false → Spelled w bits (Ok (data_of w bits, w))
unfolding chunked chunked_number
spelled_last w bits some whole last = record { is = record { first = data_of w bits; others = []; small = (value-small w bits, tt); bits_are = chunk_is w bits false some whole last; number_is = omega arith } }

spelled_next : (w : ℕ) (bits : List Bool) (read : Read) → 0 < w → w ≤ length bits → more_of w bits ≡ true → Spelled w (drop w bits) read → Spelled w bits (with_chunk w (data_of w bits) read)
unfolding chunked chunked_number
spelled_next w bits (Ok x) some whole more h =
    let tail : IsVbr w (take x.1 (drop w bits)) x.0 = h.is in
    record { is = record { first = data_of w bits; others = tail.first ∷ tail.others; small = (value-small w bits, tail.small); bits_are = rw (take-add w x.1 bits, chunk_is w bits true some whole more, tail.bits_are, append_assoc) refl; number_is = rw tail.number_is refl } }
spelled_next w bits (Err e) some whole more h = spelled_err _ _ e

pub vbr_spelled : (n w k : ℕ) (bits : List Bool) → 2 ≤ w → Spelled w bits (vbr_from n w k bits)
unfolding vbr_from
vbr_spelled zero w k bits low = spelled_err w bits VbrTooLong
vbr_spelled (suc n) w k bits low =
    spelled_pick _ _ _ _ _ (λ _. spelled_err w bits Truncated) (λ long.
    let whole : w ≤ length bits = ltb-false (length bits) w long in
    spelled_pick w bits (leb 64 k || leb (2 ^ (64 - k)) (data_of w bits)) _ _ (λ _. spelled_err w bits VbrTooLong) (λ _.
    spelled_pick w bits (more_of w bits) _ (Ok (data_of w bits, w))
    (λ more. spelled_next w bits _ (omega arith) whole more (vbr_spelled n w (k + (w - 1)) (drop w bits) low))
    (λ last. spelled_last w bits (omega arith) whole last)))

pub vbr_found : (w v taken : ℕ) (bits : List Bool) → 2 ≤ w → vbr_at w bits ≡ Ok (v, taken) → IsVbr w (take taken bits) v
vbr_found w v taken bits low h =
    let all = rw h at (vbr_spelled 65 w 0 bits low) in
    all.is

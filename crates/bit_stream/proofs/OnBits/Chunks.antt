-- One chunk of a number, and what the chunks after it give.
use Rattle.std.proofs.Common.{◌≡◌, ℕ, zero, suc, ◌+◌, ◌-◌, ◌*◌, ◌/◌, ◌%◌, ◌^◌, ◌<◌, ◌≤◌, Bool, true, false, List, [], ◌∷◌, length, take, drop, get_or, Ok, Err, IfOk, if◌then◌else◌, refl, sym, ap, ◌∙◌, arith, leb, ◌||◌, length-drop, bit_and, bit_or}
use Rattle.bit_stream.specs.declared.bits.fault.BitFaultKind.{BitFaultKind}
use Rattle.bit_stream.specs.declared.bits.fault.BitFaultKind.TheVariants.{Truncated, VbrTooLong}
use Rattle.std.proofs.lemmas.Bool.{lt-ltb, le-ltb, ltb-false, lt-leb, le-leb}
use Rattle.std.proofs.lemmas.List.{take_more, length-take-le}
use Rattle.std.proofs.Math.Nat.{mul_comm}
use Rattle.std.proofs.Math.Pow.{pow_mono}
use Rattle.std.proofs.lemmas.Nat.{pow_pos, pow-add, shr_high, mod_low, and_mask, one_shl, shl_whole}
use Rattle.std.proofs.lemmas.Nat.Bits.{ones_shr}
use Rattle.std.specs.Int.Bits.{or_shifted_r}
use Rattle.std.proofs.Math.Arith.{digits_lt}
use Rattle.bit_stream.specs.Bits.Bits.{bit, value}
use Rattle.bit_stream.specs.Bits.Reading.{Read, with_chunk, vbr_from, vbr_at}
use Rattle.bit_stream.proofs.OnBits.BitsLaws.{value-append, value-take}

-- data that was read before
abbrev pub with_front : ℕ → ℕ → ℕ → Read → Read
with_front k v taken (Ok x) = Ok (v + 2 ^ k * x.0, taken + x.1)
with_front k v taken (Err e) = Err e

abbrev pub data_of : ℕ → List Bool → ℕ
data_of w bits = value (take (w - 1) bits)

abbrev pub more_of : ℕ → List Bool → Bool
more_of w bits = get_or bits (w - 1) false

pub front_none : (read : Read) → read ≡ with_front 0 0 0 read
front_none (Ok x) = let a : 0 + 2 ^ 0 * x.0 ≡ x.0 = omega arith in let b : 0 + x.1 ≡ x.1 = omega arith in rw (a, b) refl
front_none (Err e) = refl

pub front_chunk : (w k v taken d : ℕ) (read : Read)
    → with_front k v taken (with_chunk w d read) ≡ with_front (k + (w - 1)) (v + d * 2 ^ k) (taken + w) read
front_chunk w k v taken d (Ok x) =
    let number : v + 2 ^ k * (d + 2 ^ (w - 1) * x.0) ≡ v + d * 2 ^ k + 2 ^ (k + (w - 1)) * x.0 = rw (pow-add 2 k (w - 1)) (grind arith) in
    let length : taken + (w + x.1) ≡ taken + w + x.1 = omega arith in
    rw (number, length) refl
front_chunk w k v taken d (Err e) = refl

value-one : (b : Bool) → value (b ∷ []) ≡ bit b
unfolding value
value-one b = omega arith

-- a chunk is its data and the bit above
pub chunk_parts : (w : ℕ) (bits : List Bool) → 0 < w → w ≤ length bits → value (take w bits) ≡ bit (more_of w bits) * 2 ^ (w - 1) + data_of w bits
chunk_parts w bits some h =
    let next : w - 1 + 1 ≡ w = omega arith in
    let cut = take_more bits (w - 1) false (omega arith) in
    let size : length (take (w - 1) bits) ≡ w - 1 = length-take-le (w - 1) bits (omega arith) in
    ap (λ (n : ℕ). value (take n bits)) (sym next) ∙ rw (cut, value-append, size, value-one) (omega (arith, mul_comm (2 ^ (w - 1)) (bit (more_of w bits))))

pub vbr_short : (n w k : ℕ) (bits : List Bool) → length bits < w → vbr_from (suc n) w k bits ≡ Err Truncated
unfolding vbr_from
vbr_short n w k bits h = rw (lt-ltb (length bits) w h) refl

pub vbr_late : (n w k : ℕ) (bits : List Bool) → w ≤ length bits → 64 ≤ k → vbr_from (suc n) w k bits ≡ Err VbrTooLong
unfolding vbr_from
vbr_late n w k bits h late = rw (le-ltb (length bits) w h, le-leb 64 k late) refl

pub vbr_wide : (n w k : ℕ) (bits : List Bool) → w ≤ length bits → k < 64 → 2 ^ (64 - k) ≤ data_of w bits → vbr_from (suc n) w k bits ≡ Err VbrTooLong
unfolding vbr_from
vbr_wide n w k bits h early wide = rw (le-ltb (length bits) w h, lt-leb 64 k early, le-leb _ _ wide) refl

pub vbr_last : (n w k : ℕ) (bits : List Bool) → w ≤ length bits → k < 64 → data_of w bits < 2 ^ (64 - k) → more_of w bits ≡ false → vbr_from (suc n) w k bits ≡ Ok (data_of w bits, w)
unfolding vbr_from
vbr_last n w k bits h early fits last = rw (le-ltb (length bits) w h, lt-leb 64 k early, lt-leb _ _ fits, last) refl

pub vbr_next : (n w k : ℕ) (bits : List Bool) → w ≤ length bits → k < 64 → data_of w bits < 2 ^ (64 - k) → more_of w bits ≡ true
    → vbr_from (suc n) w k bits ≡ with_chunk w (data_of w bits) (vbr_from n w (k + (w - 1)) (drop w bits))
unfolding vbr_from
vbr_next n w k bits h early fits next = rw (le-ltb (length bits) w h, lt-leb 64 k early, lt-leb _ _ fits, next) refl

-- the code's tests and sums on one chunk

pub data_is : (w chunk : ℕ) (bits : List Bool) → 2 ≤ w → w ≤ 32 → w ≤ length bits → chunk ≡ value (take w bits)
    → bit_and chunk (1 * 2 ^ (w - 1) % 2 ^ 64 - 1) ≡ data_of w bits
data_is w chunk bits low high h is =
    let small : data_of w bits < 2 ^ (w - 1) = omega (arith, value-take (w - 1) bits, pow_pos (w - 1)) in
    rw (one_shl (w - 1) 64 (omega arith), and_mask, is, chunk_parts w bits (omega arith) h) (mod_low (bit (more_of w bits)) (w - 1) (data_of w bits) small)

pub top_is : (w chunk : ℕ) (bits : List Bool) → 2 ≤ w → w ≤ length bits → chunk ≡ value (take w bits)
    → chunk / 2 ^ (w - 1) ≡ bit (more_of w bits)
top_is w chunk bits low h is =
    let small : data_of w bits < 2 ^ (w - 1) = omega (arith, value-take (w - 1) bits, pow_pos (w - 1)) in
    rw (is, chunk_parts w bits (omega arith) h) (shr_high (bit (more_of w bits)) (w - 1) (data_of w bits) small)

bit_clear : (b : Bool) → bit b ≡ 0 → b ≡ false
bit_clear true h = cc
bit_clear false h = refl

bit_set : (b : Bool) → (bit b ≡ 0 → ⊥) → b ≡ true
bit_set true h = refl
bit_set false h = absurd (h refl)

-- data that fits above k bits
pub fits_above : (k d : ℕ) → k < 64 → d ≤ 18446744073709551615 / 2 ^ k → d < 2 ^ (64 - k)
fits_above k d h le = omega (arith, ones_shr 64 k (omega arith), pow_pos (64 - k))

pub over_above : (k d : ℕ) → k < 64 → 18446744073709551615 / 2 ^ k < d → 2 ^ (64 - k) ≤ d
over_above k d h lt = omega (arith, ones_shr 64 k (omega arith), pow_pos (64 - k))

pub or_data : (k v d : ℕ) → k < 64 → v < 2 ^ k → d < 2 ^ (64 - k) → bit_or v (d * 2 ^ k % 2 ^ 64) ≡ v + d * 2 ^ k
or_data k v d h small fits =
    rw (shl_whole d (64 - k) k 64 fits (omega arith), or_shifted_r d k v small) (omega arith)

pub data-lt : (w k v d : ℕ) → v < 2 ^ k → d < 2 ^ (w - 1) → v + d * 2 ^ k < 2 ^ (k + (w - 1))
data-lt w k v d small fits = omega (arith, pow-add 2 k (w - 1), mul_comm (2 ^ k) (2 ^ (w - 1)), digits_lt fits small)

pub step_short : (w k v taken n : ℕ) (bits : List Bool) → n < 65 → length bits < w → Err Truncated ≡ with_front k v taken (vbr_from (65 - n) w k bits)
step_short w k v taken n bits h short =
    let fuel : 65 - n ≡ suc (64 - n) = omega arith in
    rw (fuel, vbr_short (64 - n) w k bits short) refl

pub step_late : (w k v taken n : ℕ) (bits : List Bool) → n < 65 → w ≤ length bits → 64 ≤ k → Err VbrTooLong ≡ with_front k v taken (vbr_from (65 - n) w k bits)
step_late w k v taken n bits h whole late =
    let fuel : 65 - n ≡ suc (64 - n) = omega arith in
    rw (fuel, vbr_late (64 - n) w k bits whole late) refl

pub step_wide : (w k v taken n : ℕ) (bits : List Bool) → n < 65 → w ≤ length bits → k < 64 → 2 ^ (64 - k) ≤ data_of w bits
    → Err VbrTooLong ≡ with_front k v taken (vbr_from (65 - n) w k bits)
step_wide w k v taken n bits h whole early wide =
    let fuel : 65 - n ≡ suc (64 - n) = omega arith in
    rw (fuel, vbr_wide (64 - n) w k bits whole early wide) refl

pub step_last : (w k v taken n d : ℕ) (bits : List Bool) → n < 65 → w ≤ length bits → k < 64 → v < 2 ^ k → d ≡ data_of w bits → d < 2 ^ (64 - k)
    → bit (more_of w bits) ≡ 0
    → Ok (bit_or v (d * 2 ^ k % 2 ^ 64), taken + w) ≡ with_front k v taken (vbr_from (65 - n) w k bits)
step_last w k v taken n d bits h whole early small is fits last =
    let fuel : 65 - n ≡ suc (64 - n) = omega arith in
    rw (fuel, or_data k v d early small fits, is, vbr_last (64 - n) w k bits whole early (rw is at fits) (bit_clear _ last), mul_comm) refl

pub step_next : (w k v taken n d : ℕ) (bits : List Bool) → n < 65 → w ≤ length bits → k < 64 → v < 2 ^ k → d ≡ data_of w bits → d < 2 ^ (64 - k)
    → (bit (more_of w bits) ≡ 0 → ⊥)
    → with_front k v taken (vbr_from (65 - n) w k bits) ≡ with_front (k + (w - 1)) (bit_or v (d * 2 ^ k % 2 ^ 64)) (taken + w) (vbr_from (65 - (n + 1)) w (k + (w - 1)) (drop w bits))
step_next w k v taken n d bits h whole early small is fits more =
    let fuel : 65 - n ≡ suc (64 - n) = omega arith in
    let left : 65 - (n + 1) ≡ 64 - n = omega arith in
    rw (fuel, left, or_data k v d early small fits, is, vbr_next (64 - n) w k bits whole early (rw is at fits) (bit_set _ more), front_chunk) refl

pub step_none : (w k v taken n : ℕ) (bits : List Bool) → 65 ≤ n → Err VbrTooLong ≡ with_front k v taken (vbr_from (65 - n) w k bits)
unfolding vbr_from
step_none w k v taken n bits h =
    let fuel : 65 - n ≡ 0 = omega arith in
    rw fuel refl

-- where no bit is set above a chunk's data, the chunk is its data
only_data : (b : Bool) (p d : ℕ) → bit b ≡ 0 → bit b * p + d ≡ d
only_data true p d h = absurd (omega arith)
only_data false p d h = omega arith

-- a number in one chunk
pub one_chunk : (w chunk : ℕ) (bits : List Bool) → 2 ≤ w → w ≤ 32 → w ≤ length bits → chunk ≡ value (take w bits) → chunk / 2 ^ (w - 1) ≡ 0
    → Ok (chunk, w) ≡ vbr_at w bits
one_chunk w chunk bits low high whole is last =
    let clear : bit (more_of w bits) ≡ 0 = sym (top_is w chunk bits low whole is) ∙ last in
    let number : chunk ≡ data_of w bits = is ∙ chunk_parts w bits (omega arith) whole ∙ only_data (more_of w bits) (2 ^ (w - 1)) (data_of w bits) clear in
    let size : w - 1 ≤ 31 = omega arith in
    let bound : 2 ^ (w - 1) ≤ 2 ^ 31 = pow_mono size in
    let small : data_of w bits < 2 ^ (w - 1) = omega (arith, value-take (w - 1) bits, pow_pos (w - 1)) in
    let fits : data_of w bits < 2 ^ (64 - 0) = omega arith in
    rw number (sym (vbr_last 64 w 0 bits whole (omega arith) fits (bit_clear _ clear)))

-- how many bits a reading takes, which is none at a fault
pub record Within (size : ℕ) (read : Read) : Type 0 where
  pub is : IfOk read (λ x. x.1 ≤ size)

within_pick : (m : ℕ) (b : Bool) (x y : Read) → Within m x → (b ≡ false → Within m y) → Within m (if b then x else y)
within_pick m true x y f g = f
within_pick m false x y f g = g refl

within_either : (m : ℕ) (b : Bool) (x y : Read) → Within m x → Within m y → Within m (if b then x else y)
within_either m true x y f g = f
within_either m false x y f g = g

within_err : (m : ℕ) (e : BitFaultKind) → Within m (Err e)
within_err m e = record { is = tt }

chunk_within : (w d m : ℕ) (read : Read) → Within m read → Within (w + m) (with_chunk w d read)
chunk_within w d m (Ok x) h = let fits : x.1 ≤ m = h.is in record { is = omega arith }
chunk_within w d m (Err e) h = within_err _ e

vbr_from-within : (n w k : ℕ) (bits : List Bool) → Within (length bits) (vbr_from n w k bits)
unfolding vbr_from
vbr_from-within zero w k bits = within_err _ _
vbr_from-within (suc n) w k bits =
    within_pick _ _ _ _ (within_err _ _) (λ whole.
    let fits : w ≤ length bits = ltb-false (length bits) w whole in
    let size : w + length (drop w bits) ≡ length bits = omega (arith, length-drop w bits) in
    let rest = chunk_within w (data_of w bits) _ _ (vbr_from-within n w (k + (w - 1)) (drop w bits)) in
    within_either _ (leb 64 k || leb (2 ^ (64 - k)) (data_of w bits)) _ _ (within_err _ VbrTooLong) (within_either _ (more_of w bits) _ (Ok (data_of w bits, w)) (rw size at rest) (record { is = fits })))

-- the bits that a number takes are there
pub vbr_takes : (w v taken : ℕ) (bits : List Bool) → Ok (v, taken) ≡ vbr_at w bits → taken ≤ length bits
vbr_takes w v taken bits h =
    let whole = rw (sym h) at (vbr_from-within 65 w 0 bits) in
    whole.is

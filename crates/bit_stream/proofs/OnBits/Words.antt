-- What the reader computes of a word is the number of a run of bits.
use Rattle.std.proofs.Common.{◌≡◌, ℕ, ◌+◌, ◌-◌, ◌*◌, ◌/◌, ◌%◌, ◌^◌, ◌<◌, ◌≤◌, Bool, List, [], ◌∷◌, ◌++◌, length, take, drop, get_or, refl, sym, ap, ◌∙◌, arith, length-drop, bit_and, bit_or, w64}
use Rattle.std.specs.Int.{from_le_bytes}
use Rattle.std.proofs.lemmas.List.{drop_more, drop-drop}
use Rattle.std.proofs.Math.Nat.{mod-eq_of_lt}
use Rattle.std.proofs.Math.Pow.{pow_mono, mod-mod-pow}
use Rattle.std.proofs.Math.Seq.{take-add, length-take-le}
use Rattle.std.proofs.lemmas.Nat.{pow_pos, or_shifted, shr-shr, and_mask, one_shl, field_of}
use Rattle.bit_stream.specs.Bits.Bits.{value, stream_bits}
use Rattle.bit_stream.proofs.OnBits.BitsLaws.{value-lt, value-byte, length-stream_bits, value-take, value-drop, value-append, field_in_word}

-- one more byte below a word
pub word_more : (bs : List ℕ) (at word b : ℕ) → 0 < at → at ≤ length bs → length bs < 8 → b < 256 → b ≡ get_or bs (at - 1) 0
    → word ≡ value (stream_bits (drop at bs)) → bit_or (word * 256 % 2 ^ 64) b ≡ value (stream_bits (drop (at - 1) bs))
word_more bs at word b some within short small is so_far =
    let rest = stream_bits (drop at bs) in
    let size : length rest ≤ 56 = omega (arith, length-stream_bits (drop at bs), length-drop at bs) in
    let bound : 2 ^ length rest ≤ 2 ^ 56 = pow_mono size in
    let fits : word * 256 < 2 ^ 64 = omega (arith, value-lt rest) in
    let next : at - 1 + 1 ≡ at = omega arith in
    rw (mod-eq_of_lt fits, or_shifted word 8 b small, drop_more bs (at - 1) 0 (omega arith), next, ← is, value-byte b (drop at bs) small) (omega arith)

pub value-nil : value (stream_bits []) ≡ 0
unfolding value stream_bits
value-nil = refl

-- eight bytes at once
pub word_eight : (bs : List ℕ) → length bs ≡ 8 → ((i : ℕ) → get_or bs i 0 < 256) → from_le_bytes w64 bs ≡ value (stream_bits bs)
word_eight (a ∷ b ∷ c ∷ d ∷ e ∷ f ∷ g ∷ h ∷ []) l small =
    rw (value-byte _ _ (small 0), value-byte _ _ (small 1), value-byte _ _ (small 2), value-byte _ _ (small 3), value-byte _ _ (small 4), value-byte _ _ (small 5), value-byte _ _ (small 6), value-byte _ _ (small 7)) (omega (arith, value-nil))
word_eight _ l small = absurd (omega arith)

-- a field out of a word that begins at most 7 bits before it
pub short_field : (bits : List Bool) (at word w : ℕ) → w ≤ 57 → word ≡ value (take 64 (drop (8 * (at / 8)) bits))
    → bit_and (word / 2 ^ (at % 8)) (1 * 2 ^ w % 2 ^ 64 - 1) ≡ value (take w (drop at bits))
short_field bits at word w h is =
    let place : 8 * (at / 8) + at % 8 ≡ at = omega arith in
    let shifts : value bits / 2 ^ (8 * (at / 8)) / 2 ^ (at % 8) ≡ value bits / 2 ^ at = shr-shr (value bits) (8 * (at / 8)) (at % 8) ∙ ap (λ (k : ℕ). value bits / 2 ^ k) place in
    rw (one_shl w 64 (omega arith), and_mask, is, value-take, value-take, value-drop, value-drop, field_in_word _ (at % 8) w (omega arith), shifts) refl

-- a field in two parts
pub long_field : (bits : List Bool) (at w low high : ℕ) → 32 ≤ w → w ≤ 64 → at + w ≤ length bits
    → low ≡ value (take 32 (drop at bits)) → high ≡ value (take (w - 32) (drop (at + 32) bits))
    → bit_or (high * 4294967296 % 2 ^ 64) low ≡ value (take w (drop at bits))
long_field bits at w low high from to whole low_is high_is =
    let parts : 32 + (w - 32) ≡ w = omega arith in
    let front = take 32 (drop at bits) in
    let size : length front ≡ 32 = length-take-le 32 (drop at bits) (omega (arith, length-drop at bits)) in
    let cut : take w (drop at bits) ≡ front ++ take (w - 32) (drop (at + 32) bits) =
    ap (λ (k : ℕ). take k (drop at bits)) (sym parts) ∙ rw (take-add 32 (w - 32) (drop at bits), drop-drop 32 at bits) refl in
    let above : 2 ^ (w - 32) ≤ 2 ^ 32 = let size : w - 32 ≤ 32 = omega arith in pow_mono size in
    let bound : high < 2 ^ 32 = omega (arith, value-take (w - 32) (drop (at + 32) bits), pow_pos (w - 32)) in
    let fits : high * 4294967296 < 2 ^ 64 = omega arith in
    let low_fits : low < 2 ^ 32 = omega (arith, value-take 32 (drop at bits)) in
    rw (mod-eq_of_lt fits, or_shifted high 32 low low_fits, cut, value-append, size, ← low_is, ← high_is) (omega arith)

-- the first bits of a field that was read, and those behind them

pub field_front : (m w field : ℕ) (bits : List Bool) → w ≤ m → w ≤ 32 → field ≡ value (take m bits) → bit_and field (1 * 2 ^ w % 2 ^ 64 - 1) ≡ value (take w bits)
field_front m w field bits within narrow is =
    let whole : m - w + w ≡ m = omega arith in
    let cut : value bits % 2 ^ m % 2 ^ w ≡ value bits % 2 ^ w = ap (λ (k : ℕ). value bits % 2 ^ k % 2 ^ w) (sym whole) ∙ mod-mod-pow (value bits) (m - w) w in
    rw (one_shl w 64 (omega arith), and_mask, is, value-take, value-take) cut

pub field_back : (m w field : ℕ) (bits : List Bool) → w ≤ m → field ≡ value (take m bits) → field / 2 ^ w ≡ value (take (m - w) (drop w bits))
field_back m w field bits within is =
    let whole : m - w + w ≡ m = omega arith in
    let cut : value bits % 2 ^ m / 2 ^ w ≡ value bits / 2 ^ w % 2 ^ (m - w) = ap (λ (k : ℕ). value bits % 2 ^ k / 2 ^ w) (sym whole) ∙ field_of (value bits) (m - w) w in
    rw (is, value-take, value-take, value-drop) cut

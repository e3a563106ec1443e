-- A place in the bits of some bytes, and what a read there gives.
use Rattle.std.proofs.Common.{◌≡◌, ℕ, zero, suc, ◌+◌, ◌-◌, ◌*◌, ◌/◌, ◌%◌, ◌<◌, ◌≤◌, Bool, List, [], ◌∷◌, length, take, drop, get_or, Ok, Err, true, false, if◌then◌else◌, refl, sym, ap, ◌∙◌, arith, length-drop}
use Rattle.std.proofs.lemmas.List.{drop-drop, take_at, drop_at, get_or-drop}
use Rattle.std.proofs.Math.Nat.{mod-eq_of_lt}
use Rattle.bit_stream.specs.declared.bits.fault.BitFaultKind.{BitFaultKind}
use Rattle.bit_stream.specs.declared.bits.fault.BitFaultKind.TheVariants.{Truncated}
use Rattle.bit_stream.specs.declared.bits.fault.BitFault.{BitFault}
use Rattle.bit_stream.specs.Bits.Bits.{value, bits_of, stream_bits}
use Rattle.bit_stream.specs.Bits.Cursor.{Cursor, Found}
use Rattle.bit_stream.specs.Bits.Reading.{fixed, vbr, vbr_at, align, gap, bytes, bytes_of}
use Rattle.bit_stream.proofs.OnBits.BitsLaws.{length-stream_bits, length-bits_of, value-bits_of, stream_bits-drop}
use Rattle.bit_stream.proofs.OnBits.ReaderSteps.{field_short, field_whole, align_short, align_whole, bytes_short, bytes_whole}

abbrev pub place : List ℕ → ℕ → Cursor
place bs at = record { at = at; rest = drop at (stream_bits bs) }

pub left_is : (bs : List ℕ) (at : ℕ) → length (drop at (stream_bits bs)) ≡ 8 * length bs - at
left_is bs at = omega (arith, length-drop at (stream_bits bs), length-stream_bits bs)

pub fixed_refused : (bs : List ℕ) (at w : ℕ) → 8 * length bs - at < w → fixed w (place bs at) ≡ Err (record { kind = Truncated; bit = at })
fixed_refused bs at w h = field_short w (place bs at) (omega (arith, left_is bs at))

pub fixed_read : (bs : List ℕ) (at w v : ℕ) → w ≤ 8 * length bs - at → v ≡ value (take w (drop at (stream_bits bs))) → fixed w (place bs at) ≡ Ok (v, place bs (at + w))
fixed_read bs at w v h is = field_whole w (place bs at) (omega (arith, left_is bs at)) ∙ rw (← is, drop-drop) refl

pub align_refused : (bs : List ℕ) (at : ℕ) → 8 * length bs - at < gap at → align (place bs at) ≡ Err (record { kind = Truncated; bit = at })
align_refused bs at h = align_short (place bs at) (omega (arith, left_is bs at))

pub align_read : (bs : List ℕ) (at : ℕ) → gap at ≤ 8 * length bs - at → align (place bs at) ≡ Ok (tt, place bs (at + gap at))
align_read bs at h = align_whole (place bs at) (omega (arith, left_is bs at)) ∙ rw drop-drop refl

pub vbr_refused : (bs : List ℕ) (at w : ℕ) (k : BitFaultKind) → Err k ≡ vbr_at w (drop at (stream_bits bs)) → vbr w (place bs at) ≡ Err (record { kind = k; bit = at })
unfolding vbr
vbr_refused bs at w k h = rw (← h) refl

pub vbr_read : (bs : List ℕ) (at w v taken : ℕ) → Ok (v, taken) ≡ vbr_at w (drop at (stream_bits bs)) → vbr w (place bs at) ≡ Ok (v, place bs (at + taken))
unfolding vbr
vbr_read bs at w v taken h = rw (← h, drop-drop) refl

-- the bytes from a byte's first bit on
pub bytes_are : (n : ℕ) (bs : List ℕ) → n ≤ length bs → ((i : ℕ) → get_or bs i 0 < 256) → bytes_of n (stream_bits bs) ≡ take n bs
unfolding bytes_of stream_bits
bytes_are zero bs h small = refl
bytes_are (suc n) [] h small = absurd (omega arith)
bytes_are (suc n) (b ∷ bs) h small =
    let first : b < 256 = small 0 in
    rw (take_at (bits_of 8 b) (stream_bits bs) 8 (length-bits_of 8 b), drop_at (bits_of 8 b) (stream_bits bs) 8 (length-bits_of 8 b), value-bits_of, mod-eq_of_lt first, bytes_are n bs (omega arith) (λ i. small (suc i))) refl

pub bytes_refused : (bs : List ℕ) (at n : ℕ) → (8 * length bs - at) / 8 < n → bytes n (place bs at) ≡ Err (record { kind = Truncated; bit = at })
bytes_refused bs at n h = bytes_short n (place bs at) (omega (arith, left_is bs at))

pub bytes_are_there : (bs : List ℕ) (at n : ℕ) → at % 8 ≡ 0 → at + 8 * n ≤ 8 * length bs → ((i : ℕ) → get_or bs i 0 < 256)
    → take n (drop (at / 8) bs) ≡ bytes_of n (drop at (stream_bits bs))
bytes_are_there bs at n whole within small =
    let bit : 8 * (at / 8) ≡ at = omega arith in
    sym (ap (λ (k : ℕ). bytes_of n (drop k (stream_bits bs))) (sym bit) ∙ rw (← stream_bits-drop (at / 8) bs) (bytes_are n (drop (at / 8) bs) (omega (arith, length-drop (at / 8) bs)) (λ i. rw get_or-drop (small (at / 8 + i)))))

pub bytes_read : (bs : List ℕ) (at n : ℕ) (read : List ℕ) → n ≤ (8 * length bs - at) / 8 → read ≡ bytes_of n (drop at (stream_bits bs))
    → bytes n (place bs at) ≡ Ok (read, place bs (at + 8 * n))
bytes_read bs at n read h is = bytes_whole n (place bs at) (omega (arith, left_is bs at)) ∙ rw (is, drop-drop) refl

aligned_by : (b : Bool) (e d : Cursor) (x : BitFault) → e.at % 32 ≡ 0 → (let all : Found (Unit {0}) = (if b then Err x else Ok (tt, e)) in all ≡ Ok (tt, d)) → d.at % 32 ≡ 0
aligned_by true e d x word h = cc
aligned_by false e d x word h =
    let one : Unit {0} × Cursor = (tt, e) in
    let two : Unit {0} × Cursor = (tt, d) in
    let pair : one ≡ two = cc in
    rw (ap (λ (p : Unit {0} × Cursor). p.1) pair) at word

-- behind an alignment a word begins
pub aligned : (c d : Cursor) → align c ≡ Ok (tt, d) → d.at % 32 ≡ 0
unfolding align
aligned c d h =
    let word : (c.at + gap c.at) % 32 ≡ 0 = omega arith in
    aligned_by _ (record { at = c.at + gap c.at; rest = drop (gap c.at) c.rest }) d (record { kind = Truncated; bit = c.at }) word h

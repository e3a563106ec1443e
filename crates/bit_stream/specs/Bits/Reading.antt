-- For `fixed`, `vbr` and the other calls of `BitCursor`: what stands at the front of a run of bits: a fixed field, a
-- number in chunks, bytes, or a fault.
use Rattle.std.specs.Prelude.{ℕ, zero, suc, ◌+◌, ◌-◌, ◌*◌, ◌%◌, ◌^◌, Bool, false, List, [], ◌∷◌, length, take, drop, Result, Ok, Err, if◌then◌else◌, nat_lt, nat_le, ◌||◌, slice_index_or}
use Rattle.bit_stream.specs.declared.bits.fault.BitFaultKind.{BitFaultKind}
use Rattle.bit_stream.specs.declared.bits.fault.BitFaultKind.TheVariants.{Truncated, VbrTooLong}
use Rattle.bit_stream.specs.Bits.Bits.{value}
use Rattle.bit_stream.specs.Bits.Cursor.{Cursor, Found, ◌>>=◌}

-- what stands at the front: a number with how many bits it takes, or a fault
abbrev pub Read : Type 0
Read = Result (ℕ × ℕ) BitFaultKind

-- a field of so many bits at the front
unfoldable pub fixed_at : ℕ → List Bool → Read
fixed_at w bits = if nat_lt (length bits) w then Err Truncated else Ok (value (take w bits), w)

-- a chunk's data d with the number that the chunks after it give
abbrev pub with_chunk : ℕ → ℕ → Read → Read
with_chunk w d (Ok x) = Ok (d + 2 ^ (w - 1) * x.0, w + x.1)
with_chunk w d (Err e) = Err e

-- A number in chunks of w bits: w - 1 of data, the low ones first, and a bit that is set where another chunk
-- follows. The first of these chunks begins at data bit k. None may have data from data bit 64 on, or begin there.
unfoldable pub vbr_from : ℕ → ℕ → ℕ → List Bool → Read
vbr_from zero w k bits = Err VbrTooLong
vbr_from (suc chunks) w k bits =
    if nat_lt (length bits) w then Err Truncated
    else (if nat_le 64 k || nat_le (2 ^ (64 - k)) (value (take (w - 1) bits)) then Err VbrTooLong
    else (if slice_index_or bits (w - 1) false
    then with_chunk w (value (take (w - 1) bits)) (vbr_from chunks w (k + (w - 1)) (drop w bits))
    else Ok (value (take (w - 1) bits), w)))

-- no number has more than 65 chunks: the last of them would begin at data bit 64 or more
abbrev pub vbr_at : ℕ → List Bool → Read
vbr_at w bits = vbr_from 65 w 0 bits

-- the place behind what was read, or the fault, which stands at the field's first bit
abbrev pub read_at : Cursor → Read → Found ℕ
read_at c (Ok x) = Ok (x.0, record { at = c.at + x.1; rest = drop x.1 c.rest })
read_at c (Err k) = Err (record { kind = k; bit = c.at })

-- a field of w bits
unfoldable pub fixed : ℕ → Cursor → Found ℕ
fixed w c = read_at c (fixed_at w c.rest)

-- a number in chunks of w bits
unfoldable pub vbr : ℕ → Cursor → Found ℕ
vbr w c = read_at c (vbr_at w c.rest)

-- how many bits are left to the next word of 32 bits
abbrev pub gap : ℕ → ℕ
gap at = (32 - at % 32) % 32

-- the bits up to a word of 32, which are not looked at
unfoldable pub align : Cursor → Found (Unit {0})
align c = if nat_lt (length c.rest) (gap c.at) then Err (record { kind = Truncated; bit = c.at })
    else Ok (tt, record { at = c.at + gap c.at; rest = drop (gap c.at) c.rest })

-- n bytes in a run of bits
unfoldable pub bytes_of : ℕ → List Bool → List ℕ
bytes_of zero bits = []
bytes_of (suc n) bits = value (take 8 bits) ∷ bytes_of n (drop 8 bits)

-- so many bytes
unfoldable pub bytes : ℕ → Cursor → Found (List ℕ)
bytes n c = if nat_lt (length c.rest) (8 * n) then Err (record { kind = Truncated; bit = c.at })
    else Ok (bytes_of n c.rest, record { at = c.at + 8 * n; rest = drop (8 * n) c.rest })

-- a blob: how many bytes, and between two alignments the bytes
unfoldable pub blob : Cursor → Found (List ℕ)
blob c = vbr 6 c >>= λ n d. align d >>= λ _ e. bytes n e >>= λ all f. align f >>= λ _ g. Ok (all, g)

-- For `vbr`, `align` and `finish` of `BitSink`: how a number is written in chunks, and how a stream ends.
use Rattle.std.specs.Prelude.{ℕ, zero, suc, ◌-◌, ◌/◌, ◌%◌, ◌^◌, Bool, true, false, List, [], ◌∷◌, ◌++◌, if◌then◌else◌, nat_lt, replicate}
use Rattle.bit_stream.specs.Bits.Bits.{bits_of}

-- A number in chunks of w bits, w - 1 of them data, the low ones first, and as few as it has.
-- `more` bounds how many chunks follow the first.
unfoldable pub vbr_bits : ℕ → ℕ → ℕ → List Bool
vbr_bits zero w n = bits_of (w - 1) n ++ false ∷ []
vbr_bits (suc more) w n =
    if nat_lt n (2 ^ (w - 1)) then bits_of (w - 1) n ++ false ∷ []
    else (bits_of (w - 1) n ++ true ∷ vbr_bits more w (n / 2 ^ (w - 1)))

-- the bits of zero from bit n up to a word's end
abbrev pub pad_bits : ℕ → List Bool
pad_bits n = replicate ((32 - n % 32) % 32) false

-- the bits of zero from bit n up to a byte's end
abbrev pub byte_pad : ℕ → List Bool
byte_pad n = replicate ((8 - n % 8) % 8) false

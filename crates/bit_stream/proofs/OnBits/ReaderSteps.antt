-- A reader's step at a field.
use Rattle.std.proofs.Common.{◌≡◌, ℕ, ◌+◌, ◌*◌, ◌<◌, ◌≤◌, Bool, List, length, take, drop, Ok, Err, refl}
use Rattle.bit_stream.specs.declared.bits.fault.BitFaultKind.TheVariants.{Truncated}
use Rattle.std.proofs.lemmas.Bool.{lt-ltb, le-ltb}
use Rattle.bit_stream.specs.Bits.Bits.{value}
use Rattle.bit_stream.specs.Bits.Cursor.{Cursor}
use Rattle.bit_stream.specs.Bits.Reading.{fixed_at, fixed, align, gap, bytes, bytes_of}

pub fixed_short : (w : ℕ) (bits : List Bool) → length bits < w → fixed_at w bits ≡ Err Truncated
unfolding fixed_at
fixed_short w bits h = rw (lt-ltb (length bits) w h) refl

pub fixed_whole : (w : ℕ) (bits : List Bool) → w ≤ length bits → fixed_at w bits ≡ Ok (value (take w bits), w)
unfolding fixed_at
fixed_whole w bits h = rw (le-ltb (length bits) w h) refl

pub field_short : (w : ℕ) (c : Cursor) → length c.rest < w → fixed w c ≡ Err (record { kind = Truncated; bit = c.at })
unfolding fixed
field_short w c h = rw (fixed_short w c.rest h) refl

pub field_whole : (w : ℕ) (c : Cursor) → w ≤ length c.rest → fixed w c ≡ Ok (value (take w c.rest), record { at = c.at + w; rest = drop w c.rest })
unfolding fixed
field_whole w c h = rw (fixed_whole w c.rest h) refl

pub align_short : (c : Cursor) → length c.rest < gap c.at → align c ≡ Err (record { kind = Truncated; bit = c.at })
unfolding align
align_short c h = rw (lt-ltb (length c.rest) (gap c.at) h) refl

pub align_whole : (c : Cursor) → gap c.at ≤ length c.rest → align c ≡ Ok (tt, record { at = c.at + gap c.at; rest = drop (gap c.at) c.rest })
unfolding align
align_whole c h = rw (le-ltb (length c.rest) (gap c.at) h) refl

pub bytes_short : (n : ℕ) (c : Cursor) → length c.rest < 8 * n → bytes n c ≡ Err (record { kind = Truncated; bit = c.at })
unfolding bytes
bytes_short n c h = rw (lt-ltb (length c.rest) (8 * n) h) refl

pub bytes_whole : (n : ℕ) (c : Cursor) → 8 * n ≤ length c.rest → bytes n c ≡ Ok (bytes_of n c.rest, record { at = c.at + 8 * n; rest = drop (8 * n) c.rest })
unfolding bytes
bytes_whole n c h = rw (le-ltb (length c.rest) (8 * n) h) refl

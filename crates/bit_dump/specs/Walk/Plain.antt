-- Says how the code reads: a record without an abbreviation, of whose operands none is looked at before it is taken.
use Rattle.std.specs.Prelude.{ℕ, List, Option, Some, None, Ok, Err, IfSome, if◌then◌else◌, ◌==◌}
use Rattle.bit_stream.specs.Bits.Cursor.{Cursor, Found, ◌>>=◌}
use Rattle.bit_stream.specs.Bits.Reading.{fixed, vbr}
use Rattle.bit_stream.specs.declared.abbreviation.ValueSpelling.TheVariants.{Chunks}
use Rattle.bit_stream.specs.Record.{code_by}
use Rattle.bit_dump.specs.declared.walk.plain.PlainHead.{PlainHead}
use Rattle.bit_dump.specs.Walk.Values.{repeated, IsRead}

-- behind an abbreviation id the code and how many operands there are, if it is that of a record without an abbreviation
abbrev pub head_behind : ℕ → Cursor → Found (Option PlainHead)
head_behind id c =
    if id == 3 then (code_by (Chunks 6) c >>= λ code d. vbr 6 d >>= λ count e. Ok (Some (record { code = code; count = count }), e))
    else Ok (None, c)

-- the head of a record without an abbreviation, where one stands there
unfoldable pub head_at : ℕ → Cursor → Found (Option PlainHead)
head_at width c = fixed width c >>= λ id d. head_behind id d

-- the place behind values that were found
abbrev pub place_past : Cursor → Found (List ℕ) → Cursor
place_past c (Ok x) = x.1
place_past c (Err fault) = c

-- the place behind the record that was given last: behind its operands that wait, if it is one whose operands do
abbrev pub place_of : Option ℕ → Cursor → Cursor → Cursor
place_of None inner c = c
place_of (Some count) inner c = place_past inner (repeated (Chunks 6) count inner)

-- the operands that are left of it
abbrev pub found_of : Option ℕ → Cursor → Found (List ℕ) → Found (List ℕ)
found_of None inner found = found
found_of (Some count) inner found = repeated (Chunks 6) count inner

-- none of those that wait is refused
abbrev pub IsWaiting : Option ℕ → Cursor → Type 0
IsWaiting waiting inner = IfSome waiting (λ count. IsRead (repeated (Chunks 6) count inner))

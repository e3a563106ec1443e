-- For `defined_abbreviation`, and how the code reads: what a call that may want memory answers, beside what reading finds.
use Rattle.std.specs.Prelude.{◌≡◌, ℕ, Result, Ok, Err}
use Rattle.bit_stream.specs.Bits.Cursor.{Cursor, Found}
use Rattle.bit_stream.specs.declared.bits.fault.BitFaultKind.TheVariants.{BadAbbreviation}
use Rattle.bit_stream.specs.declared.fault.StreamFault.{StreamFault}
use Rattle.bit_stream.specs.declared.fault.StreamFault.TheVariants.{Bit, Memory}

-- a call stops by a fault where reading does, and by want of memory anywhere
abbrev pub Stops : {A : Type 0} → StreamFault → Found A → Type 0
Stops (Bit fault) reading = reading ≡ Err fault
Stops Memory reading = Unit {0}

-- the call found what reading finds, or ran out of memory
abbrev pub Ran : {X A : Type 0} → (X → A) → Cursor → Result X StreamFault → Found A → Type 0
Ran view left (Ok x) reading = reading ≡ Ok (view x, left)
Ran view left (Err fault) reading = Stops fault reading

-- the field that begins at this bit is refused
abbrev pub refuse : {A : Type 0} → ℕ → Found A
refuse bit = Err (record { kind = BadAbbreviation; bit = bit })

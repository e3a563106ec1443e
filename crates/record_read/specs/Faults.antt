-- For all calls that answer a `BitcodeFault`: what refuses, and when a call answers as the records say.
use Rattle.std.specs.Prelude.{◌≡◌, ℕ, ◌-◌, Result, Ok, Err, MatchResult}
use Rattle.bit_stream.specs.declared.fault.StreamFault as stream
use Rattle.bit_stream.specs.declared.fault.StreamFault.TheVariants as stream_fault
use Rattle.record_read.specs.declared.fault.BitcodeFault.{BitcodeFault}
use Rattle.record_read.specs.declared.fault.BitcodeFault.TheVariants as fault
use Rattle.record_table.specs.Walk.{told}
use Rattle.record_table.specs.Faults as faults
use Rattle.record_read.specs.Reader.{Reader, FinishesBy}

-- a fault of the container, or want of memory
abbrev pub of_stream : stream.StreamFault → BitcodeFault
of_stream (stream_fault.Bit bit) = fault.Bit bit
of_stream stream_fault.Memory = fault.Memory

-- a refusal of records
abbrev pub of_records : faults.RecordFault → BitcodeFault
of_records faults.ForeignProducer = fault.ForeignProducer
of_records (faults.BadVersion version) = fault.BadVersion version
of_records (faults.UnknownRecord id code) = fault.UnknownRecord id code
of_records (faults.BadRecord id at rule) = fault.BadRecord id at rule

-- the fault is that refusal, or want of memory
abbrev pub IsFault : BitcodeFault → faults.RecordFault → Type 0
IsFault fault.Memory told = Unit {0}
IsFault given told = given ≡ of_records told

-- a call answers as the records say: what is kept means what they stand for, and a refusal is theirs
abbrev pub Answers : {A B : Type 0} → (B → A → Type 0) → faults.Answer A → Result B BitcodeFault → Type 0
Answers means (Ok value) (Ok kept) = means kept value
Answers means (Err told) (Err given) = IsFault given told
Answers means (Ok value) (Err given) = given ≡ fault.Memory
Answers means (Err told) (Ok kept) = ⊥

-- the refusal of a block where none of its kind may stand, behind so many records
abbrev pub IsMisplaced : ℕ → ℕ → BitcodeFault → Type 0
IsMisplaced id at given = MatchResult (faults.misplaced {A = Unit {0}} id at) (λ done. ⊥) (λ told. given ≡ of_records told)

-- a record that stands in that block, and was given last, is refused by the least rule that it breaks
abbrev pub Finishes : ℕ → Reader → Result (Unit {0}) BitcodeFault → Type 0
Finishes id old result = FinishesBy (λ rule given. given ≡ fault.BadRecord id (old.at - 1) rule) (told old.walk) result

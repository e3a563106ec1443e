-- For `value_by`, `code_by` and `next_entry` of `BitReader`: the values of a record (LLVM Bitcode File Format, "Data
-- Records").
use Rattle.std.specs.Prelude.{ℕ, zero, suc, Bool, List, [], ◌∷◌, ◌++◌, length, Ok, if◌then◌else◌, ◌==◌, ◌&&◌, nat_le, slice_index}
use Rattle.std.specs.Prelude.{codes}
use Rattle.bit_stream.specs.Bits.Cursor.{Cursor, Found, ◌>>=◌}
use Rattle.bit_stream.specs.Bits.Reading.{fixed, vbr, blob}
use Rattle.bit_stream.specs.declared.abbreviation.ValueSpelling.{ValueSpelling}
use Rattle.bit_stream.specs.declared.abbreviation.ValueSpelling.TheVariants.{Known, Field, Chunks, Letter}
use Rattle.bit_stream.specs.declared.abbreviation.Tail.{Tail}
use Rattle.bit_stream.specs.declared.abbreviation.Tail.TheVariants.{NoTail, Elements, Bytes}
use Rattle.bit_stream.specs.declared.item.TheConstants.{ID_LIMIT}
use Rattle.bit_stream.specs.Abbreviation.{AdmittedAbbreviation}
use Rattle.bit_stream.specs.Answers.{refuse}

-- the 64 characters, in the order of their numbers
abbrev pub letters : List ℕ
letters = codes "abcdefghijklmnopqrstuvwxyzABCDEFGHIJKLMNOPQRSTUVWXYZ0123456789._"

-- one value
unfoldable pub value_by : ValueSpelling → Cursor → Found ℕ
value_by (Known number) c = Ok (number, c)
value_by (Field width) c = fixed width c
value_by (Chunks width) c = vbr width c
value_by Letter c = fixed 6 c >>= λ number d. Ok (slice_index letters number, d)

-- the code, which is below the limit of ids
unfoldable pub code_by : ValueSpelling → Cursor → Found ℕ
code_by s c = value_by s c >>= λ number d. if nat_le ID_LIMIT number then refuse c.at else Ok (number, d)

-- One more operand, behind those in front. Where the record names a block by its first operand, that is below the limit of ids.
unfoldable pub operand : Bool → List ℕ → ValueSpelling → Cursor → Found (List ℕ)
operand names_block front s c = value_by s c >>= λ number d.
    if names_block && (length front == 0) && nat_le ID_LIMIT number then refuse c.at else Ok (front ++ number ∷ [], d)

-- so many operands of one spelling, behind those in front
unfoldable pub elements : Bool → ValueSpelling → ℕ → List ℕ → Cursor → Found (List ℕ)
elements names_block s zero front c = Ok (front, c)
elements names_block s (suc n) front c = operand names_block front s c >>= λ more d. elements names_block s n more d

-- operands of these spellings, behind those in front
unfoldable pub each : Bool → List ValueSpelling → List ℕ → Cursor → Found (List ℕ)
each names_block [] front c = Ok (front, c)
each names_block (s ∷ ss) front c = operand names_block front s c >>= λ more d. each names_block ss more d

-- a count of operands and so many of them
unfoldable pub counted : Bool → ValueSpelling → List ℕ → Cursor → Found (List ℕ)
counted names_block s front c = vbr 6 c >>= λ count d. elements names_block s count front d

-- the operands that the end of an abbreviation gives, behind those in front, and the blob
unfoldable pub tail_by : Bool → Tail → List ℕ → Cursor → Found (List ℕ × List ℕ)
tail_by names_block NoTail front c = Ok ((front, []), c)
tail_by names_block (Elements s) front c = counted names_block s front c >>= λ all d. Ok ((all, []), d)
tail_by names_block Bytes front c = blob c >>= λ bytes d. Ok ((front, bytes), d)

-- a record: its code, its operands and its blob
pub record ReadRecord : Type 0 where
  pub code : ℕ
  pub operands : List ℕ
  pub blob : List ℕ

-- in the block of the abbreviations of others, a record of code 1 names a block
abbrev pub names_block : Bool → ℕ → Bool
names_block in_blockinfo code = in_blockinfo && (code == 1)

-- a record without an abbreviation: its code, how many operands it has, and these, each in chunks of 6 bits
unfoldable pub unabbreviated : Bool → Cursor → Found ReadRecord
unabbreviated in_blockinfo c = code_by (Chunks 6) c >>= λ code d.
    counted (names_block in_blockinfo code) (Chunks 6) [] d >>= λ all e. Ok (record { code = code; operands = all; blob = [] }, e)

-- a record by an abbreviation: its code, its operands one by one, and its tail
unfoldable pub abbreviated : Bool → AdmittedAbbreviation → Cursor → Found ReadRecord
abbreviated in_blockinfo t c = code_by t.code c >>= λ code d.
    each (names_block in_blockinfo code) t.operands [] d >>= λ front e.
    tail_by (names_block in_blockinfo code) t.tail front e >>= λ all f. Ok (record { code = code; operands = all.0; blob = all.1 }, f)

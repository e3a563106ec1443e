-- For `abbreviated_is_read_back` and `record_is_read_back`: what a writer wrote is read as what was written.
use Rattle.std.specs.Prelude.{◌≡◌, ℕ, ◌+◌, ◌<◌, ◌≤◌, ◌^◌, Bool, true, false, List, [], ◌++◌, length, Some, Ok, nat_le}
use Rattle.std.specs.List.{AllByRecursion, list_all}
use Rattle.bit_stream.specs.Bits.Bits.{bits_of}
use Rattle.bit_stream.specs.Bits.Cursor.{Cursor, Found}
use Rattle.bit_stream.specs.declared.entry.Entry.TheVariants.{Record}
use Rattle.bit_stream.specs.declared.abbreviation.ValueSpelling.{ValueSpelling}
use Rattle.bit_stream.specs.declared.abbreviation.ValueSpelling.TheVariants.{Known, Field, Chunks, Letter}
use Rattle.bit_stream.specs.declared.abbreviation.Tail.{Tail}
use Rattle.bit_stream.specs.declared.abbreviation.Tail.TheVariants.{NoTail, Elements, Bytes}
use Rattle.bit_stream.specs.declared.item.TheConstants.{ID_LIMIT}
use Rattle.bit_stream.specs.Abbreviation.{AdmittedAbbreviation}
use Rattle.bit_stream.specs.Scope.{Scope, abbreviation_of}
use Rattle.bit_stream.specs.Entry.{StreamItem, item, is_top, is_blockinfo}
use Rattle.bit_stream.specs.Spelling.{record_bits, record_fits, with_record}

-- wherever these bits stand, reading finds this value and goes on behind them
abbrev pub ReadsAs : {A : Type 0} → (Cursor → Found A) → List Bool → A → Type 0
ReadsAs read bits x = (at : ℕ) (rest : List Bool) → read (record { at = at; rest = bits ++ rest }) ≡ Ok (x, record { at = at + length bits; rest = rest })

-- numbers of 64 bits, and not more of them than 64 bits count
pub record AreOperands (ns : List ℕ) : Type 0 where
  pub small : AllByRecursion (λ n. n < 2 ^ 64) ns
  pub few : length ns < 2 ^ 64

-- the place is inside a block that is no BLOCKINFO, whose ids have at least two bits
pub record IsInBlock (s : Scope) : Type 0 where
  pub inside : is_top s ≡ false
  pub plain : is_blockinfo s ≡ false
  pub wide : 2 ≤ s.block.width

-- a record by itself
abbrev pub record_item : Scope → ℕ → List ℕ → StreamItem
record_item s code ns = record { entry = Some (Record code); scope = s; operands = ns; blob = [] }

-- a record without an abbreviation
abbrev pub RecordIsReadBack : Type 0
RecordIsReadBack = (s : Scope) (code : ℕ) (ns : List ℕ) → IsInBlock s → code < ID_LIMIT → AreOperands ns
    → ReadsAs (item s) (bits_of s.block.width 3 ++ record_bits code ns) (record_item s code ns)

-- chunks have at least two bits, as in every abbreviation that the format admits
abbrev pub is_sound : ValueSpelling → Bool
is_sound (Known n) = true
is_sound (Field w) = true
is_sound (Chunks w) = nat_le 2 w
is_sound Letter = true

-- a tail with elements of a sound encoding, or none
abbrev pub is_sound_tail : Tail → Bool
is_sound_tail NoTail = true
is_sound_tail (Elements s) = is_sound s
is_sound_tail Bytes = false

-- each encoding of the abbreviation can be read back
pub record IsSound (t : AdmittedAbbreviation) : Type 0 where
  pub code : is_sound t.code ≡ true
  pub operands : list_all is_sound t.operands ≡ true
  pub tail : is_sound_tail t.tail ≡ true

-- a record by an abbreviation without a blob
abbrev pub AbbreviatedIsReadBack : Type 0
AbbreviatedIsReadBack = (s : Scope) (id : ℕ) (t : AdmittedAbbreviation) (code : ℕ) (ns : List ℕ) → IsInBlock s
    → 4 ≤ id → id < 2 ^ s.block.width → abbreviation_of s id ≡ Some t → IsSound t
    → record_fits (Some t) code ns ≡ true → code < ID_LIMIT → AreOperands ns
    → ReadsAs (item s) (with_record (Some t) code ns (bits_of s.block.width id)) (record_item s code ns)

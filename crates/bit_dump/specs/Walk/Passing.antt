-- Says how the code reads: an entry that is passed over, of whose operands the first alone is kept.
use Rattle.std.specs.Prelude.{◌≡◌, ℕ, zero, suc, ◌≤◌, Bool, true, false, List, [], ◌∷◌, length, Option, Some, None, Result, Ok, Err, if◌then◌else◌, ◌==◌, ◌&&◌, nat_le}
use Rattle.bit_stream.specs.Bits.Cursor.{Cursor, Found, ◌>>=◌}
use Rattle.bit_stream.specs.Bits.Reading.{fixed, vbr, blob}
use Rattle.bit_stream.specs.declared.bits.fault.BitFault.{BitFault}
use Rattle.bit_stream.specs.declared.bits.fault.BitFaultKind.TheVariants.{BadAbbreviation}
use Rattle.bit_stream.specs.declared.entry.Entry.{Entry}
use Rattle.bit_stream.specs.declared.entry.Entry.TheVariants.{Block, EndBlock, Record, End}
use Rattle.bit_stream.specs.declared.abbreviation.ValueSpelling.{ValueSpelling}
use Rattle.bit_stream.specs.declared.abbreviation.ValueSpelling.TheVariants.{Chunks}
use Rattle.bit_stream.specs.declared.abbreviation.Tail.{Tail}
use Rattle.bit_stream.specs.declared.abbreviation.Tail.TheVariants.{NoTail, Elements, Bytes}
use Rattle.bit_stream.specs.declared.item.TheConstants.{ID_LIMIT}
use Rattle.bit_stream.specs.Abbreviation.{AdmittedAbbreviation}
use Rattle.bit_stream.specs.Answers.{refuse}
use Rattle.bit_stream.specs.Record.{value_by, code_by, names_block}
use Rattle.bit_stream.specs.Scope.{Scope, abbreviation_of}
use Rattle.bit_stream.specs.Entry.{StreamItem, plain, is_top, is_blockinfo, targeting, enter_block, end_block, define}

-- the first of some operands
abbrev pub first_of : List ℕ → Option ℕ
first_of [] = None
first_of (n ∷ ns) = Some n

-- the first operand, behind one more
abbrev pub with_first : Option ℕ → ℕ → Option ℕ
with_first None n = Some n
with_first (Some first) n = Some first

-- no operand was kept
abbrev pub is_none : Option ℕ → Bool
is_none None = true
is_none (Some first) = false

-- one more operand
unfoldable pub pass_operand : Bool → Option ℕ → ValueSpelling → Cursor → Found (Option ℕ)
pass_operand names first s c = value_by s c >>= λ number d.
    if names && is_none first && nat_le ID_LIMIT number then refuse c.at else Ok (with_first first number, d)

-- so many operands of one spelling
unfoldable pub pass_elements : Bool → ValueSpelling → ℕ → Option ℕ → Cursor → Found (Option ℕ)
pass_elements names s zero first c = Ok (first, c)
pass_elements names s (suc n) first c = pass_operand names first s c >>= λ more d. pass_elements names s n more d

-- they are passed, and this is the place behind them
abbrev pub IsPassedTo : Found (Option ℕ) → Cursor → Type 0
IsPassedTo found d = (first : Option ℕ) × (found ≡ Ok (first, d))

-- what a call answered that passes them, and where it left its cursor
abbrev pub IsPassed : {X : Type 0} → Result X BitFault → Cursor → Found (Option ℕ) → Type 0
IsPassed (Ok x) left found = IsPassedTo found left
IsPassed (Err fault) left found = found ≡ Err fault

-- operands of these spellings
unfoldable pub pass_each : Bool → List ValueSpelling → Option ℕ → Cursor → Found (Option ℕ)
pass_each names [] first c = Ok (first, c)
pass_each names (s ∷ ss) first c = pass_operand names first s c >>= λ more d. pass_each names ss more d

-- a count of operands and so many of them
unfoldable pub pass_counted : Bool → ValueSpelling → Option ℕ → Cursor → Found (Option ℕ)
pass_counted names s first c = vbr 6 c >>= λ count d. pass_elements names s count first d

-- the operands that the end of an abbreviation gives, and the blob
unfoldable pub pass_tail : Bool → Tail → Option ℕ → Cursor → Found (Option ℕ × List ℕ)
pass_tail names NoTail first c = Ok ((first, []), c)
pass_tail names (Elements s) first c = pass_counted names s first c >>= λ all d. Ok ((all, []), d)
pass_tail names Bytes first c = blob c >>= λ bytes d. Ok ((first, bytes), d)

-- a record: its code, its first operand and its blob
pub record Passed : Type 0 where
  pub code : ℕ
  pub first : Option ℕ
  pub blob : List ℕ

-- a record without an abbreviation is passed over
unfoldable pub pass_unabbreviated : Bool → Cursor → Found Passed
pass_unabbreviated info c = code_by (Chunks 6) c >>= λ code d.
    pass_counted (names_block info code) (Chunks 6) None d >>= λ first e. Ok (record { code = code; first = first; blob = [] }, e)

-- a record by an abbreviation is passed over
unfoldable pub pass_abbreviated : Bool → AdmittedAbbreviation → Cursor → Found Passed
pass_abbreviated info t c = code_by t.code c >>= λ code d.
    pass_each (names_block info code) t.operands None d >>= λ front e.
    pass_tail (names_block info code) t.tail front e >>= λ all f. Ok (record { code = code; first = all.0; blob = all.1 }, f)

-- by an abbreviation that may not be there, whose id stands at this bit
unfoldable pub pass_by_abbreviation : Option AdmittedAbbreviation → ℕ → Bool → Cursor → Found Passed
pass_by_abbreviation None bit info c = refuse bit
pass_by_abbreviation (Some t) bit info c = pass_abbreviated info t c

-- in BLOCKINFO a record of code 1 names a block by its first operand
abbrev pub with_target : ℕ → Scope → Option ℕ → Result Scope BitFault
with_target bit s None = Err (record { kind = BadAbbreviation; bit = bit })
with_target bit s (Some id) = Ok (targeting s id)

-- what a record makes of the open blocks: in BLOCKINFO the one of code 1 names a block id
unfoldable pub recorded : ℕ → Scope → ℕ → Option ℕ → Result Scope BitFault
recorded bit s code first = if is_blockinfo s && (code == 1) then with_target bit s first else Ok s

-- a record was passed, and left these blocks open
abbrev pub came : Passed → Cursor → Result Scope BitFault → Found StreamItem
came r c (Ok s) = Ok (record { entry = Some (Record r.code); scope = s; operands = []; blob = r.blob }, c)
came r c (Err fault) = Err fault

-- the record with that abbreviation id is passed over
unfoldable pub pass_record : ℕ → ℕ → Scope → Cursor → Found StreamItem
pass_record id bit s c =
    if id == 3 then (pass_unabbreviated (is_blockinfo s) c >>= λ r d. came r d (recorded bit s r.code r.first))
    else (pass_by_abbreviation (abbreviation_of s id) bit (is_blockinfo s) c >>= λ r d. came r d (recorded bit s r.code r.first))

-- the entry with that abbreviation id, inside a block, is passed over
unfoldable pub pass_inside : ℕ → ℕ → Scope → Cursor → Found StreamItem
pass_inside id bit s c =
    if id == 0 then end_block s c
    else (if id == 1 then (if is_blockinfo s then refuse bit else enter_block s c)
    else (if id == 2 then define bit s c
    else pass_record id bit s c))

-- what stands at a place, without its operands
unfoldable pub pass_item : Scope → Cursor → Found StreamItem
pass_item s c =
    if is_top s && (length c.rest == 0) then Ok (plain (Some End) s, c)
    else (fixed s.block.width c >>= λ id d.
    if is_top s then (if id == 1 then enter_block s d else refuse c.at)
    else pass_inside id c.at s d)

-- of a definition this abbreviation was read there; of a record by an abbreviation it is that one
abbrev pub IsBy : Option Entry → AdmittedAbbreviation → Found AdmittedAbbreviation → Cursor → Scope → ℕ → Type 0
IsBy None t defined d s id = defined ≡ Ok (t, d)
IsBy (Some (Block block)) t defined d s id = Unit {0}
IsBy (Some EndBlock) t defined d s id = Unit {0}
IsBy (Some (Record code)) t defined d s id = 4 ≤ id → abbreviation_of s id ≡ Some t
IsBy (Some End) t defined d s id = Unit {0}

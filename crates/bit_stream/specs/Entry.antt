-- For `next_entry` of `BitReader`: an entry of a stream (LLVM Bitcode File Format, "Abbreviation IDs" and "Blocks").
use Rattle.std.specs.Prelude.{◌≡◌, ℕ, ◌+◌, ◌-◌, ◌/◌, Bool, false, List, [], ◌∷◌, ◌++◌, length, take, Option, Some, None, Result, Ok, Err, if◌then◌else◌, ◌==◌, ◌&&◌, ◌||◌, nat_lt, nat_le, slice_index_or}
use Rattle.bit_stream.specs.Bits.Cursor.{Cursor, Found, ◌>>=◌}
use Rattle.bit_stream.specs.Bits.Reading.{fixed, vbr, align}
use Rattle.bit_stream.specs.declared.bits.fault.BitFault.{BitFault}
use Rattle.bit_stream.specs.declared.bits.fault.BitFaultKind.TheVariants.{BadAbbreviation, BadBlockLength, NestedTooDeep}
use Rattle.bit_stream.specs.declared.entry.Entry.{Entry}
use Rattle.bit_stream.specs.declared.entry.Entry.TheVariants.{Block, EndBlock, Record, End}
use Rattle.bit_stream.specs.declared.item.TheConstants.{ID_LIMIT, MAX_OPEN}
use Rattle.bit_stream.specs.declared.abbreviation.TheConstants.{WIDEST_CHUNK}
use Rattle.bit_stream.specs.declared.abbreviation.AbbrevOp.{AbbrevOp}
use Rattle.bit_stream.specs.Abbreviation.{AdmittedAbbreviation, ops_of, ends_in_blob}
use Rattle.bit_stream.specs.Answers.{refuse}
use Rattle.bit_stream.specs.Definition.{defined_abbreviation}
use Rattle.bit_stream.specs.Record.{ReadRecord, unabbreviated, abbreviated}
use Rattle.bit_stream.specs.Scope.{Scope, given_to, give, abbreviation_of}

-- what stands at a place: an entry, or none where it is a definition; the blocks that are open behind it; and the
-- operands and the blob, where it is a record
pub record StreamItem : Type 0 where
  pub entry : Option Entry
  pub scope : Scope
  pub operands : List ℕ
  pub blob : List ℕ

-- an entry without operands, and the blocks that are open behind it
abbrev pub plain : Option Entry → Scope → StreamItem
plain entry s = record { entry = entry; scope = s; operands = []; blob = [] }

-- no block is open
abbrev pub is_top : Scope → Bool
is_top s = length s.around == 0

-- BLOCKINFO is block 0
abbrev pub is_zero : Option ℕ → Bool
is_zero None = false
is_zero (Some id) = id == 0

-- the innermost block is BLOCKINFO, whose id is 0
abbrev pub is_blockinfo : Scope → Bool
is_blockinfo s = is_zero s.block.id

-- a block is entered: its id, its width, the bit of its count of words, and the count
abbrev pub entered : Scope → ℕ → ℕ → ℕ → ℕ → Scope
entered s id width bit words = record {
  block = record { id = Some id; width = width; count_bit = bit; words = words; given = length (given_to s.given id); own = []; target = None };
  around = s.around ++ s.block ∷ [];
  given = s.given;
}

-- The block is left for the one around it.
abbrev pub block_left : Scope → Scope
block_left s = record {
  block = slice_index_or s.around (length s.around - 1) s.block;
  around = take (length s.around - 1) s.around;
  given = s.given;
}

-- a definition of the block's own
abbrev pub defined : Scope → AdmittedAbbreviation → Scope
defined s t = record s { block = record s.block { own = s.block.own ++ t ∷ [] } }

-- a definition in BLOCKINFO, for another block
abbrev pub given_for : Scope → ℕ → AdmittedAbbreviation → Scope
given_for s id t = record s { given = give s.given id t }

-- the definitions of this BLOCKINFO are for this block from now on
abbrev pub targeting : Scope → ℕ → Scope
targeting s id = record s { block = record s.block { target = Some id } }

-- what follows the width of a block: alignment, and the count of words
abbrev pub enter_sized : Scope → ℕ → ℕ → Cursor → Found StreamItem
enter_sized s id width c = align c >>= λ _ d. fixed 32 d >>= λ words e. Ok (plain (Some (Block id)) (entered s id width d.at words), e)

-- a width, which stands at this bit, is at least 2, and no more than the widest
abbrev pub enter_wide : Scope → ℕ → ℕ → ℕ → Cursor → Found StreamItem
enter_wide s id bit width c = if nat_lt width 2 || nat_lt WIDEST_CHUNK width then refuse bit else enter_sized s id width c

-- a block id, which stands at this bit, is below its limit, and no more blocks are open at once than may be
abbrev pub enter_named : Scope → ℕ → ℕ → Cursor → Found StreamItem
enter_named s bit id c =
    if nat_le ID_LIMIT id then refuse bit
    else (if length s.around == MAX_OPEN then Err (record { kind = NestedTooDeep; bit = bit })
    else (vbr 4 c >>= λ width d. enter_wide s id c.at width d))

-- ENTER_SUBBLOCK behind its id
unfoldable pub enter_block : Scope → Cursor → Found StreamItem
enter_block s c = vbr 8 c >>= λ id d. enter_named s c.at id d

-- how many words there are from behind a count, which begins at a bit, to another bit; both begin words
abbrev pub words_since : ℕ → ℕ → ℕ
words_since count_bit at = at / 32 - (count_bit / 32 + 1)

-- END_BLOCK behind its id
unfoldable pub end_block : Scope → Cursor → Found StreamItem
end_block s c = align c >>= λ _ d.
    if words_since s.block.count_bit d.at == s.block.words then Ok (plain (Some EndBlock) (block_left s), d)
    else Err (record { kind = BadBlockLength; bit = s.block.count_bit })

-- DEFINE_ABBREV behind its id, which stands at this bit
unfoldable pub define_for : Option ℕ → ℕ → Scope → Cursor → Found StreamItem
define_for None bit s c = refuse bit
define_for (Some id) bit s c = defined_abbreviation c >>= λ t d. Ok (plain None (given_for s id t), d)

-- a definition: in BLOCKINFO for the block id that its record names, else for the block in which it stands
unfoldable pub define : ℕ → Scope → Cursor → Found StreamItem
define bit s c =
    if is_blockinfo s then define_for s.block.target bit s c
    else (defined_abbreviation c >>= λ t d. Ok (plain None (defined s t), d))

-- A record of code 1 in BLOCKINFO names by its first operand the block that definitions are for from then on. Without
-- an operand it is refused, at its abbreviation id, which stands at this bit.
abbrev pub with_target : ℕ → Scope → List ℕ → Result Scope BitFault
with_target bit s [] = Err (record { kind = BadAbbreviation; bit = bit })
with_target bit s (id ∷ others) = Ok (targeting s id)

-- what a record makes of the open blocks: in BLOCKINFO the one of code 1 names a block id
unfoldable pub recorded : ℕ → Scope → ℕ → List ℕ → Result Scope BitFault
recorded bit s code operands = if is_blockinfo s && (code == 1) then with_target bit s operands else Ok s

-- a record was read, and left these blocks open
abbrev pub came : ReadRecord → Cursor → Result Scope BitFault → Found StreamItem
came r c (Ok s) = Ok (record { entry = Some (Record r.code); scope = s; operands = r.operands; blob = r.blob }, c)
came r c (Err fault) = Err fault

-- the values of a record by an abbreviation, whose id stands at this bit
unfoldable pub by_abbreviation : Option AdmittedAbbreviation → ℕ → Bool → Cursor → Found ReadRecord
by_abbreviation None bit in_blockinfo c = refuse bit
by_abbreviation (Some t) bit in_blockinfo c = abbreviated in_blockinfo t c

-- a record behind its abbreviation id, which stands at this bit: 3 is UNABBREV_RECORD
unfoldable pub record_by : ℕ → ℕ → Scope → Cursor → Found StreamItem
record_by id bit s c =
    if id == 3 then (unabbreviated (is_blockinfo s) c >>= λ r d. came r d (recorded bit s r.code r.operands))
    else (by_abbreviation (abbreviation_of s id) bit (is_blockinfo s) c >>= λ r d. came r d (recorded bit s r.code r.operands))

-- what stands behind an abbreviation id in a block; the id stands at this bit
unfoldable pub inside : ℕ → ℕ → Scope → Cursor → Found StreamItem
inside id bit s c =
    if id == 0 then end_block s c
    else (if id == 1 then (if is_blockinfo s then refuse bit else enter_block s c)
    else (if id == 2 then define bit s c
    else record_by id bit s c))

-- what stands at a place
unfoldable pub item : Scope → Cursor → Found StreamItem
item s c =
    if is_top s && (length c.rest == 0) then Ok (plain (Some End) s, c)
    else (fixed s.block.width c >>= λ id d.
    if is_top s then (if id == 1 then enter_block s d else refuse c.at)
    else inside id c.at s d)

-- what a call that changes the open blocks answered and which it left
abbrev pub settled : {X : Type 0} → Result X BitFault → Scope → Result Scope BitFault
settled (Ok x) s = Ok s
settled (Err fault) s = Err fault

-- what stands at a place behind the definitions in front
pub data NextItem : Scope → Cursor → Found StreamItem → Type 0 where
  here : {s : Scope} {c d : Cursor} {i : StreamItem} {e : Entry} → item s c ≡ Ok (i, d) → i.entry ≡ Some e → NextItem s c (Ok (i, d))
  refused : {s : Scope} {c : Cursor} {x : BitFault} → item s c ≡ Err x → NextItem s c (Err x)
  behind : {s : Scope} {c d : Cursor} {i : StreamItem} {r : Found StreamItem} → item s c ≡ Ok (i, d) → i.entry ≡ None → NextItem i.scope d r → NextItem s c r

-- the number that was found, or 0
abbrev pub number_of : Found ℕ → ℕ
number_of (Ok x) = x.0
number_of (Err fault) = 0

-- the abbreviation id at a place in a block
unfoldable pub id_at : Scope → Cursor → ℕ
id_at s c = number_of (fixed s.block.width c)

-- whether a record behind such an abbreviation id ends in a blob: the ids below 4 are of no abbreviation
abbrev pub has_blob_by : Scope → ℕ → Bool
has_blob_by s id = nat_le 4 id && ends_in_blob (abbreviation_of s id)

-- the abbreviation that is defined behind an abbreviation id
unfoldable pub defined_at : Scope → Cursor → Found AdmittedAbbreviation
defined_at s c = fixed s.block.width c >>= λ _ d. defined_abbreviation d

-- the operands of a definition that was found, behind those of others
abbrev pub with_definition : List (List AbbrevOp) → Found AdmittedAbbreviation → List (List AbbrevOp)
with_definition front (Ok x) = front ++ ops_of x.0 ∷ []
with_definition front (Err fault) = front

-- the definitions behind what stands at a place, where that may be one
abbrev pub with_item : List (List AbbrevOp) → Option Entry → Found AdmittedAbbreviation → List (List AbbrevOp)
with_item front None found = with_definition front found
with_item front (Some entry) found = front

-- of a record, this is its abbreviation id, and whether it ends in a blob
abbrev pub IsRecordBy : Option Entry → ℕ → Bool → Scope → ℕ → Type 0
IsRecordBy None id blob s found = Unit {0}
IsRecordBy (Some (Block block)) id blob s found = Unit {0}
IsRecordBy (Some EndBlock) id blob s found = Unit {0}
IsRecordBy (Some (Record code)) id blob s found = (id ≡ found) × (blob ≡ has_blob_by s found)
IsRecordBy (Some End) id blob s found = Unit {0}

-- from one place to another stand only definitions, with these operands
pub data OnlyDefinitions : Scope → Cursor → List (List AbbrevOp) → Scope → Cursor → Type 0 where
  start : {s : Scope} {c : Cursor} → OnlyDefinitions s c [] s c
  more : {s t : Scope} {c d e : Cursor} {i : StreamItem} {front : List (List AbbrevOp)}
      → OnlyDefinitions s c front t d → item t d ≡ Ok (i, e) → i.entry ≡ None → OnlyDefinitions s c (with_definition front (defined_at t d)) i.scope e

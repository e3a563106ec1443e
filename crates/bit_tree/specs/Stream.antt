-- For `read_stream` and `judge`: a whole stream, that is its blocks, definitions and records as a tree, or the first
-- field that is refused.
use Rattle.std.specs.Prelude.{◌≡◌, ℕ, zero, suc, ◌+◌, Bool, true, false, List, [], ◌∷◌, ◌++◌, length, drop, Option, Some, None, Ok, Err, if◌then◌else◌}
use Rattle.bit_stream.specs.Bits.Bits.{stream_bits}
use Rattle.bit_stream.specs.Bits.Cursor.{Cursor, Found}
use Rattle.bit_stream.specs.declared.bits.fault.BitFault.{BitFault}
use Rattle.bit_stream.specs.declared.bits.fault.BitFaultKind.TheVariants.{BadMagic}
use Rattle.bit_stream.specs.declared.entry.Entry.{Entry}
use Rattle.bit_stream.specs.declared.entry.Entry.TheVariants.{Block, EndBlock, Record, End}
use Rattle.bit_stream.specs.Abbreviation.{AdmittedAbbreviation}
use Rattle.bit_stream.specs.Scope.{Scope, top_level}
use Rattle.bit_stream.specs.Entry.{StreamItem, item, is_top, id_at, has_blob_by, defined_at}
use Rattle.bit_stream.specs.Reader.{begins}
use Rattle.bit_stream.specs.Writer.{in_force}

-- What stands one behind another: a block with its id, the width of its abbreviation ids, its count of words and what is
-- inside it; a definition with the abbreviation id that it is for; or a record with the abbreviation id that it is by, its
-- code, its operands, whether it ends in a blob, and the blob; and then what stands behind that.
pub data StreamTree : Type 0 where
  nothing : StreamTree
  block : (id width words : ℕ) → (inside behind : StreamTree) → StreamTree
  definition : (id : ℕ) → AdmittedAbbreviation → (behind : StreamTree) → StreamTree
  values : (id code : ℕ) → (operands : List ℕ) → (has_blob : Bool) → (blob : List ℕ) → (behind : StreamTree) → StreamTree

-- at a place stands such an entry, or a definition where it is none
pub record Stands (s : Scope) (c : Cursor) (entry : Option Entry) (i : StreamItem) (d : Cursor) : Type 0 where
  pub reads : item s c ≡ Ok (i, d)
  pub is : i.entry ≡ entry

-- the abbreviation id of what is defined next: behind those that are in force, which begin at 4
abbrev pub next_id : Scope → ℕ
next_id s = in_force s + 4

-- from one place to another, with the blocks and abbreviations in force at each, stands a tree
pub data Holds : Scope → Cursor → StreamTree → Scope → Cursor → Type 0 where
  none : {s : Scope} {c : Cursor} → Holds s c nothing s c
  of_block : {s t u : Scope} {c d e f g : Cursor} {i j : StreamItem} {id : ℕ} {inside behind : StreamTree}
      → (starts : Stands s c (Some (Block id)) i d)
      → (holds_inside : Holds i.scope d inside t e)
      → (ends : Stands t e (Some EndBlock) j f)
      → (holds_behind : Holds j.scope f behind u g)
      → Holds s c (block id i.scope.block.width i.scope.block.words inside behind) u g
  of_definition : {s u : Scope} {c d g : Cursor} {i : StreamItem} {t : AdmittedAbbreviation} {behind : StreamTree}
      → (stands : Stands s c None i d)
      → (defines : defined_at s c ≡ Ok (t, d))
      → (holds_behind : Holds i.scope d behind u g)
      → Holds s c (definition (next_id s) t behind) u g
  of_record : {s u : Scope} {c d g : Cursor} {i : StreamItem} {code : ℕ} {behind : StreamTree}
      → (stands : Stands s c (Some (Record code)) i d)
      → (holds_behind : Holds i.scope d behind u g)
      → Holds s c (values (id_at s c) code i.operands (has_blob_by s (id_at s c)) i.blob behind) u g

-- the place behind the bytes that a stream begins with
abbrev pub opening : List ℕ → Cursor
opening bytes = record { at = 32; rest = drop 32 (stream_bits bytes) }

-- the bits are a tree, from the opening to the top level where no bit is left
pub record Stream (bytes : List ℕ) (tree : StreamTree) : Type 0 where
  pub opens : begins bytes ≡ true
  pub scope : Scope
  pub cursor : Cursor
  pub all : Holds top_level (opening bytes) tree scope cursor
  pub closed : is_top scope ≡ true
  pub whole : cursor.rest ≡ []

-- whether it is the end of the stream
abbrev pub is_end : Option Entry → Bool
is_end None = false
is_end (Some (Block id)) = false
is_end (Some EndBlock) = false
is_end (Some (Record code)) = false
is_end (Some End) = true

-- the field that is refused at a place, or else the first one behind it
abbrev pub fault_or : Found StreamItem → (Scope → Cursor → Option BitFault) → Option BitFault
fault_or (Ok x) later = if is_end x.0.entry then None else later x.0.scope x.1
fault_or (Err fault) later = Some fault

-- the first field that is refused from a place on, among so many entries and definitions
unfoldable pub fault_from : ℕ → Scope → Cursor → Option BitFault
fault_from zero s c = None
fault_from (suc more) s c = fault_or (item s c) (fault_from more)

-- The first field of a stream that is refused. There are no more entries and definitions than bits.
abbrev pub stream_fault : List ℕ → Option BitFault
stream_fault bytes =
    if begins bytes then fault_from (length (stream_bits bytes)) top_level (opening bytes)
    else Some (record { kind = BadMagic; bit = 0 })

-- an entry with the operands and the blob that a reader holds behind it
pub record Shown : Type 0 where
  pub entry : Entry
  pub operands : List ℕ
  pub blob : List ℕ

-- an entry without operands
abbrev pub bare : Entry → Shown
bare entry = record { entry = entry; operands = []; blob = [] }

-- the entries of a tree, in order; a definition is none
unfoldable pub entries : StreamTree → List Shown
entries nothing = []
entries (block id width words inside behind) = bare (Block id) ∷ (entries inside ++ bare EndBlock ∷ entries behind)
entries (definition id t behind) = entries behind
entries (values id code operands has_blob blob behind) = record { entry = Record code; operands = operands; blob = blob } ∷ entries behind

-- For `next_entry`, `fixed`, `vbr` and the other calls of `BitReader`: a reader of a stream, and what its calls answer.
use Rattle.std.specs.Prelude.{◌≡◌, ℕ, Bool, false, List, [], length, take, drop, Option, Some, None, Result, Ok, Err, if◌then◌else◌, ◌==◌, ◌&&◌, not, nat_lt}
use Rattle.bit_stream.specs.Bits.Bits.{value, stream_bits}
use Rattle.bit_stream.specs.Bits.Cursor.{Cursor, Found}
use Rattle.bit_stream.specs.declared.bits.fault.BitFault.{BitFault}
use Rattle.bit_stream.specs.declared.bits.fault.BitFaultKind.TheVariants.{BadMagic}
use Rattle.bit_stream.specs.declared.entry.Entry.{Entry}
use Rattle.bit_stream.specs.declared.fault.StreamFault.{StreamFault}
use Rattle.bit_stream.specs.declared.fault.StreamFault.TheVariants.{Bit, Memory}
use Rattle.bit_stream.specs.declared.abbreviation.AbbrevOp.{AbbrevOp}
use Rattle.bit_stream.specs.declared.entry.Entry.TheVariants.{Block, EndBlock, Record, End}
use Rattle.bit_stream.specs.declared.reader.TheConstants.{MAGIC}
use Rattle.bit_stream.specs.declared.told.LastSeen.{LastSeen}
use Rattle.bit_stream.specs.Scope.{Scope, top_level}
use Rattle.bit_stream.specs.Entry.{item, NextItem, OnlyDefinitions, id_at, has_blob_by}

-- Its place, the blocks that are open there, why it stopped if it did, and what the last entry held if that was a
-- record; what is told of the block that was entered last and of the record that was read last; and the operands of each
-- definition between the last entry and the one before. Where it stopped, its place and its blocks mean nothing.
pub record StreamReader : Type 0 where
  pub cursor : Cursor
  pub scope : Scope
  pub stopped : Option StreamFault
  pub operands : List ℕ
  pub blob : List ℕ
  pub told : LastSeen
  pub definitions : List (List AbbrevOp)

-- a stream begins with the bytes 42 43 C0 DE
abbrev pub begins : List ℕ → Bool
begins bytes = not (nat_lt (length bytes) 4) && (value (take 32 (stream_bits bytes)) == MAGIC)

-- before the first block and the first record
abbrev pub untold : LastSeen
untold = record { width = 0; words = 0; abbreviation = 0; has_blob = false }

-- a reader behind the magic number, or the fault where the bytes do not begin with it
abbrev pub opened : List ℕ → Result StreamReader BitFault
opened bytes =
    if begins bytes then Ok (record {
      cursor = record { at = 32; rest = drop 32 (stream_bits bytes) };
      scope = top_level;
      stopped = None;
      operands = [];
      blob = [];
      told = untold;
      definitions = [];
    })
    else Err (record { kind = BadMagic; bit = 0 })

-- the reader stopped at a fault, and holds no record and no definitions
pub record Stopped (fault : StreamFault) (r : StreamReader) : Type 0 where
  pub why : r.stopped ≡ Some fault
  pub operands : r.operands ≡ []
  pub blob : r.blob ≡ []
  pub definitions : r.definitions ≡ []

-- a number was read, or its field was refused: the reader goes on behind it, or stops
abbrev pub ReadNumber : StreamReader → Found ℕ → Result ℕ BitFault → StreamReader → Type 0
ReadNumber old reading (Ok number) new = (reading ≡ Ok (number, new.cursor)) × (new ≡ record old { cursor = new.cursor })
ReadNumber old reading (Err fault) new = (reading ≡ Err fault) × Stopped (Bit fault) new

-- a call that reads a number, at a reader that is not spent: a fault is repeated
abbrev pub Numbered : Option StreamFault → StreamReader → Found ℕ → Result ℕ BitFault → StreamReader → Type 0
Numbered None old reading answer new = ReadNumber old reading answer new
Numbered (Some (Bit fault)) old reading answer new = (answer ≡ Err fault) × (new ≡ old)
Numbered (Some Memory) old reading answer new = Unit {0}

-- what is told behind an entry: of a block that it begins, by the blocks that are open behind it; of a record, its
-- abbreviation id and whether it ended in a blob
abbrev pub told_of : LastSeen → Entry → Scope → ℕ → Bool → LastSeen
told_of old (Block block) new id blob = record { width = new.block.width; words = new.block.words; abbreviation = old.abbreviation; has_blob = old.has_blob }
told_of old EndBlock new id blob = old
told_of old (Record code) new id blob = record { width = old.width; words = old.words; abbreviation = id; has_blob = blob }
told_of old End new id blob = old

-- Behind the definitions in front stood this entry, and what is told is of it.
pub record Arrived (old : StreamReader) (entry : Entry) (new : StreamReader) : Type 0 where
  pub scope : Scope
  pub cursor : Cursor
  pub passed : OnlyDefinitions old.scope old.cursor new.definitions scope cursor
  pub stands : item scope cursor ≡ Ok (record { entry = Some entry; scope = new.scope; operands = new.operands; blob = new.blob }, new.cursor)
  pub told : new.told ≡ told_of old.told entry new.scope (id_at scope cursor) (has_blob_by scope (id_at scope cursor))

-- the next entry was read, or is refused, or memory ran out
abbrev pub Reached : StreamReader → Result Entry StreamFault → StreamReader → Type 0
Reached old (Ok entry) new =
    (new.stopped ≡ None)
    × NextItem old.scope old.cursor (Ok (record { entry = Some entry; scope = new.scope; operands = new.operands; blob = new.blob }, new.cursor))
    × Arrived old entry new
Reached old (Err (Bit fault)) new = NextItem old.scope old.cursor (Err fault)
Reached old (Err Memory) new = Unit {0}

-- the same of a reader that stops where no entry was read, and tells what it told before
abbrev pub ReadEntry : StreamReader → Result Entry StreamFault → StreamReader → Type 0
ReadEntry old (Ok entry) new = Reached old (Ok entry) new
ReadEntry old (Err fault) new = Reached old (Err fault) new × Stopped fault new × (new.told ≡ old.told)

-- a call that reads an entry: what stopped the reader is repeated
abbrev pub Entered : Option StreamFault → StreamReader → Result Entry StreamFault → StreamReader → Type 0
Entered None old answer new = ReadEntry old answer new
Entered (Some fault) old answer new = (answer ≡ Err fault) × (new ≡ old)

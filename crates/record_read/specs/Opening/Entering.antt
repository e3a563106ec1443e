-- For `read_texts`: the block of the module, behind the string table where there is one.
use Rattle.std.specs.Prelude.{◌≡◌, ℕ, nat_eq, Bool, true, false, List, [], ◌∷◌, Result, Ok, Err, if◌then◌else◌}
use Rattle.bit_tree.specs.Pieces.{Piece, ended}
use Rattle.record_table.specs.Faults.{Answer, BadRecord, Records, no_more, a_block, a_record, misplaced, module_id, table_id, ◌>>=◌}
use Rattle.record_table.specs.Fields.{Texts, version_1}
use Rattle.record_table.specs.Records as records
use Rattle.record_table.specs.StringTable.{read_only}
use Rattle.record_read.specs.declared.entry.NextEntry.{NextEntry}
use Rattle.record_read.specs.declared.entry.NextEntry.TheVariants as entry
use Rattle.record_read.specs.declared.fault.BitcodeFault.{BitcodeFault}
use Rattle.record_read.specs.declared.texts.Texts as the_texts
use Rattle.record_read.specs.Entries.{IsBefore}
use Rattle.record_read.specs.Faults.{IsMisplaced, of_records}
use Rattle.record_read.specs.Fields.{texts_of}
use Rattle.record_read.specs.Reader.{Reader}

-- an entry that is the table's block
abbrev pub is_table_block : NextEntry → Bool
is_table_block (entry.Block id) = nat_eq id table_id
is_table_block _ = false

-- the module's block, behind so many records and where texts stand so: what is in it and what is behind it
pub record Entered : Type 0 where
  pub texts : Texts
  pub at : ℕ
  pub inside : Records
  pub behind : Records

-- it is the first block
abbrev pub block_of : Texts → ℕ → Records → Answer Entered
block_of texts at no_more = Err (BadRecord module_id at 5)
block_of texts at (a_block id inside behind) = if nat_eq id module_id then Ok (record { texts = texts; at = at; inside = inside; behind = behind }) else misplaced id at
block_of texts at (a_record code operands behind) = Err (BadRecord module_id at 5)

-- or the first behind a table
abbrev pub module_in : ℕ → Records → Answer Entered
module_in at no_more = block_of version_1 at no_more
module_in at (a_block id inside behind) =
    if nat_eq id table_id then (records.table at inside >>= λ t. block_of (read_only t.bytes) t.at behind) else block_of version_1 at (a_block id inside behind)
module_in at (a_record code operands behind) = block_of version_1 at (a_record code operands behind)

-- texts stand so, and the reader stands in the module's block, which these pieces are behind
pub record IsIn (new : Reader) (texts : the_texts.Texts) (e : Entered) : Type 0 where
  pub texts_are : texts_of texts ≡ e.texts
  pub at_is : new.at ≡ e.at
  pub pieces : List Piece
  pub inside : IsBefore new.left e.inside (ended ∷ pieces)
  pub behind : IsBefore pieces e.behind []

-- the block of the module is entered; another entry is refused
abbrev pub EntersModule : NextEntry → ℕ → Result (Unit {0}) BitcodeFault → Type 0
EntersModule (entry.Block id) at (Ok done) = nat_eq id module_id ≡ true
EntersModule (entry.Block id) at (Err given) = (nat_eq id module_id ≡ false) × IsMisplaced id at given
EntersModule _ at (Ok done) = ⊥
EntersModule _ at (Err given) = given ≡ of_records (BadRecord module_id at 5)

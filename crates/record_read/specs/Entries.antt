-- For `RecordReader::next`: the blocks and records of a tree, one behind another; BLOCKINFO and definitions are passed over.
use Rattle.std.specs.Prelude.{◌≡◌, ◌≤◌, ◌<◌, suc, length, true, false, List, [], ◌∷◌, ◌++◌, Result, Ok, Err, None}
use Rattle.bit_tree.specs.Pieces.{Piece, ended, flat}
use Rattle.bit_tree.specs.Stream.{StreamTree}
use Rattle.record_table.specs.Walk.{going}
use Rattle.record_table.specs.Faults.{Records, no_more, a_block, a_record, records}
use Rattle.record_read.specs.declared.entry.NextEntry.{NextEntry}
use Rattle.record_read.specs.declared.entry.NextEntry.TheVariants.{Block, Record, End}
use Rattle.record_read.specs.Reader.{Reader}

-- nothing is behind a stream, and an end behind what stands in a block
abbrev pub IsEnd : List Piece → Type 0
IsEnd [] = Unit {0}
IsEnd (piece ∷ pieces) = piece ≡ ended

-- what is left of a block, or of the stream, are these blocks and records and then its end with other pieces
pub record IsBefore (left : List Piece) (inside : Records) (others : List Piece) : Type 0 where
  pub tree : StreamTree
  pub is : inside ≡ records tree
  pub left_is : left ≡ flat tree ++ others
  pub ends : IsEnd others

-- a block was begun
pub record IsInBlock (left : List Piece) : Type 0 where
  pub inside : Records
  pub others : List Piece
  pub before : IsBefore left inside (ended ∷ others)

-- the pieces that are left behind an end
abbrev pub IsOver : List Piece → List Piece → Type 0
IsOver [] new = new ≡ []
IsOver (piece ∷ pieces) new = new ≡ pieces

-- what is left are the blocks and records inside a block, its end, and then those behind it
pub record IsInside (left : List Piece) (held later : Records) (others : List Piece) : Type 0 where
  pub pieces : List Piece
  pub inside : IsBefore left held (ended ∷ pieces)
  pub behind : IsBefore pieces later others

-- the first block or record was given, or the end; the operands of a record are all to be taken
abbrev pub Gives : Records → Reader → NextEntry → Reader → List Piece → Type 0
Gives no_more old End new others = (new.at ≡ old.at) × IsOver others new.left
Gives (a_block id inside behind) old (Block given) new others = (given ≡ id) × (new.at ≡ old.at) × IsInside new.left inside behind others
Gives (a_record code operands behind) old (Record given) new others =
    (given ≡ code) × (new.at ≡ suc old.at) × (new.walk ≡ going operands None) × IsBefore new.left behind others
Gives _ old entry new others = ⊥

-- behind a block or a record fewer pieces are left
abbrev pub IsNearer : NextEntry → List Piece → List Piece → Type 0
IsNearer End old new = Unit {0}
IsNearer _ old new = length new < length old

-- the same in front of any blocks and records; or memory ran out, and the reader is spent
abbrev pub Advances : {E : Type 0} → Reader → Result NextEntry E → Reader → Type 0
Advances old (Ok entry) new =
    (new.spent ≡ false)
    × IsNearer entry old.left new.left
    × ((all : Records) (others : List Piece) → IsBefore old.left all others → Gives all old entry new others)
Advances old (Err e) new = new.spent ≡ true

-- what is left of a block was passed over, with its end; or memory ran out, and the reader is spent
abbrev pub Passes : {E : Type 0} → Reader → Result (Unit {0}) E → Reader → Type 0
Passes old (Ok done) new = (new.spent ≡ false) × (new.at ≡ old.at) × (length new.left ≤ length old.left)
    × ((inside : Records) (others : List Piece) → IsBefore old.left inside (ended ∷ others) → new.left ≡ others)
Passes old (Err e) new = new.spent ≡ true

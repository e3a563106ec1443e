-- For `read_table`: the block of the string table.
use Rattle.std.specs.Prelude.{◌≡◌, ℕ, List}
use Rattle.bit_tree.specs.Pieces.{Piece}
use Rattle.record_table.specs.Records as records
use Rattle.record_read.specs.Reader.{Reader}

-- the table's bytes, which stand behind so many records with theirs
pub record HasBytes (at : ℕ) (bytes : List ℕ) (t : records.ReadTable) : Type 0 where
  pub bytes_are : bytes ≡ t.bytes
  pub at_is : t.at ≡ at

-- the table stays, and the reader stands behind its block
pub record KeepsTable (new : Reader) (others : List Piece) (t kept : records.ReadTable) : Type 0 where
  pub same : kept ≡ t
  pub left : new.left ≡ others
  pub at_is : new.at ≡ t.at

-- the table's bytes, and the reader stands behind its block
pub record IsTable (new : Reader) (others : List Piece) (bytes : List ℕ) (t : records.ReadTable) : Type 0 where
  pub bytes_are : bytes ≡ t.bytes
  pub at_is : new.at ≡ t.at
  pub left : new.left ≡ others

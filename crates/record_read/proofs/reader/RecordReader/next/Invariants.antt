use Rattle.std.proofs.Common.{◌≡◌, ◌≤◌, false, List, length}
use Rattle.bit_tree.specs.Pieces.{Piece}
use Rattle.record_table.specs.Faults.{Records}
use Rattle.record_read.specs.Entries.{IsBefore}
use Rattle.record_read.proofs.reader.RecordReader.next.Given as goal

abbrev pub invariant-entries : goal.invariant-entries
invariant-entries l = (l.self.spent ≡ false) × (l.self.at ≡ l.initial.self.at) × (length l.self.left ≤ length l.initial.self.left)
    × ((all : Records) (others : List Piece) → IsBefore l.initial.self.left all others → IsBefore l.self.left all others)

abbrev pub decreases-entries : goal.decreases-entries
decreases-entries l = length l.self.left

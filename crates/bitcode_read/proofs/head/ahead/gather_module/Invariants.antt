use Rattle.std.proofs.Common.{◌≡◌, ◌∷◌, false, length, List}
use Rattle.bit_tree.specs.Pieces.{Piece, ended}
use Rattle.record_table.specs.Faults.{Records}
use Rattle.record_read.specs.Entries.{IsBefore}
use Rattle.record_read.specs.Fields.{texts_of}
use Rattle.bitcode_read.proofs.OnHead.Gathering.{IsGathering}
use Rattle.bitcode_read.proofs.head.ahead.gather_module.Given as goal

abbrev pub invariant-entries : goal.invariant-entries
invariant-entries l = (l.reader.spent ≡ false) × ((inside : Records) (others : List Piece) → IsBefore l.initial.reader.left inside (ended ∷ others) → IsGathering (texts_of l.texts) inside others l.ahead l.has_types l.reader)

abbrev pub decreases-entries : goal.decreases-entries
decreases-entries l = length l.reader.left

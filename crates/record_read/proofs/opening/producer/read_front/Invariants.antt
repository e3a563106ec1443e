use Rattle.std.proofs.Common.{◌≡◌, ◌∷◌, false, length, List}
use Rattle.bit_tree.specs.Pieces.{Piece, ended}
use Rattle.record_table.specs.Faults.{Records}
use Rattle.record_read.specs.Entries.{IsBefore}
use Rattle.record_read.proofs.OnOpening.Fronts.{IsGoing}
use Rattle.record_read.proofs.opening.producer.read_front.Given as goal

abbrev pub invariant-entries : goal.invariant-entries
invariant-entries l = (l.reader.spent ≡ false) × ((inside : Records) (others : List Piece) → IsBefore l.initial.reader.left inside (ended ∷ others) → IsGoing inside others l.initial.reader l.block l.reader)

abbrev pub decreases-entries : goal.decreases-entries
decreases-entries l = length l.reader.left

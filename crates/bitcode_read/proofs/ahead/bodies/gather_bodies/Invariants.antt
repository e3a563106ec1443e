use Rattle.std.proofs.Common.{◌≡◌, ◌∷◌, false, length, List}
use Rattle.bit_tree.specs.Pieces.{Piece, ended}
use Rattle.record_table.specs.Faults.{Records}
use Rattle.record_read.specs.Entries.{IsBefore}
use Rattle.record_read.specs.Fields.{texts_of}
use Rattle.bitcode_read.proofs.OnAhead.Due.{IsGathering}
use Rattle.bitcode_read.proofs.OnAhead.Counting.{IsCounting}
use Rattle.bitcode_read.proofs.ahead.bodies.gather_bodies.Given as goal

abbrev pub invariant-entries : goal.invariant-entries
invariant-entries l = (l.reader.spent ≡ false)
    × ((inside : Records) (others : List Piece) → IsBefore l.initial.reader.left inside (ended ∷ others) → IsGathering (texts_of l.texts) l.types l.voids inside others l.due.items l.bodies.items l.reader)
    × ((inside : Records) (others : List Piece) → IsBefore l.initial.reader.left inside (ended ∷ others) → IsCounting inside others l.count l.reader)

abbrev pub decreases-entries : goal.decreases-entries
decreases-entries l = length l.reader.left

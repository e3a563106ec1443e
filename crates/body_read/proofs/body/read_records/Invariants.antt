use Rattle.std.proofs.Common.{◌≡◌, ◌∷◌, false, length, List}
use Rattle.bit_tree.specs.Pieces.{Piece, ended}
use Rattle.record_table.specs.Bodies.{labels}
use Rattle.record_table.specs.Faults.{Records}
use Rattle.record_table.specs.Fields.{Numbering}
use Rattle.record_read.specs.Entries.{IsBefore}
use Rattle.record_read.specs.Fields.{texts_of}
use Rattle.body_read.specs.Ahead.Ahead.{AreCounts}
use Rattle.body_read.specs.Whole.{KeepsCounts, NumbersOutside}
use Rattle.body_read.proofs.Reading.{IsLeft, IsReading}
use Rattle.body_read.proofs.body.read_records.Given as goal

abbrev pub invariant-records : goal.invariant-records
invariant-records l = (l.m.reader.spent ≡ false) × KeepsCounts l.initial.m l.m × ((inside : Records) (others : List Piece) → IsBefore l.initial.m.reader.left inside (ended ∷ others) → IsLeft others l.m.reader.left)
    × ((inside : Records) (others : List Piece) (k : Numbering) → IsBefore l.initial.m.reader.left inside (ended ∷ others) → NumbersOutside l.initial.m k
    → AreCounts l.initial.m.locals (labels (texts_of l.texts) k l.parameters inside) → IsReading l.texts k l.parameters inside others l.initial.m l.m l.body)

abbrev pub decreases-records : goal.decreases-records
decreases-records l = length l.m.reader.left

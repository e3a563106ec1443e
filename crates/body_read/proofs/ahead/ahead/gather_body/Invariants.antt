use Rattle.std.proofs.Common.{◌≡◌, ◌∷◌, false, length, List}
use Rattle.bit_tree.specs.Pieces.{Piece, ended}
use Rattle.record_table.specs.Faults.{Records}
use Rattle.record_read.specs.Entries.{IsBefore}
use Rattle.record_read.specs.Fields.{texts_of}
use Rattle.body_read.proofs.OnAhead.Gathering.{IsGathering}
use Rattle.body_read.proofs.ahead.ahead.gather_body.Given as goal

abbrev pub invariant-records : goal.invariant-records
invariant-records l = (l.reader.spent ≡ false) × ((inside : Records) (others : List Piece) → IsBefore l.initial.reader.left inside (ended ∷ others) → IsGathering (texts_of l.texts) l.parameters l.voids inside others l.ahead l.is_first l.reader)

abbrev pub decreases-records : goal.decreases-records
decreases-records l = length l.reader.left

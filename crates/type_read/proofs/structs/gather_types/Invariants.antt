use Rattle.std.proofs.Common.{◌≡◌, ◌∷◌, false, length, List}
use Rattle.bit_tree.specs.Pieces.{Piece, ended}
use Rattle.record_table.specs.Faults.{Records}
use Rattle.record_read.specs.Entries.{IsBefore}
use Rattle.record_read.specs.Fields.{texts_of}
use Rattle.type_read.proofs.GatheredAhead.{IsGathering}
use Rattle.type_read.proofs.structs.gather_types.Given as goal

abbrev pub invariant-records : goal.invariant-records
invariant-records l = (l.reader.spent ≡ false) × ((inside : Records) (others : List Piece) → IsBefore l.initial.reader.left inside (ended ∷ others) → IsGathering (texts_of l.texts) inside others l.arena l.ahead l.reader)

abbrev pub decreases-records : goal.decreases-records
decreases-records l = length l.reader.left

use Rattle.std.proofs.Common.{◌≡◌, ◌∷◌, false, length, List}
use Rattle.bit_tree.specs.Pieces.{Piece, ended}
use Rattle.record_table.specs.Faults.{Records}
use Rattle.record_table.specs.TypeRecords.{names_in}
use Rattle.record_read.specs.Entries.{IsBefore}
use Rattle.record_read.specs.Fields.{texts_of}
use Rattle.type_read.specs.Listed.{AreNames, IsNamedAs}
use Rattle.type_read.proofs.Waiting.{IsWaiting}
use Rattle.type_read.proofs.listing.read_types.Given as goal

abbrev pub invariant-records : goal.invariant-records
invariant-records l = (l.reader.spent ≡ false)
    × ((inside : Records) (others : List Piece) → IsBefore l.initial.reader.left inside (ended ∷ others) → AreNames (texts_of l.texts) inside l.names → IsNamedAs l.names (names_in (texts_of l.texts) inside) l.initial.arena
    → IsWaiting (texts_of l.texts) l.initial.reader.at inside others l.names l.arena l.pending l.reader l.defined)

abbrev pub decreases-records : goal.decreases-records
decreases-records l = length l.reader.left

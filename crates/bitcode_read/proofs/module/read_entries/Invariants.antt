use Rattle.std.proofs.Common.{◌≡◌, ℕ, false, length, List}
use Rattle.bit_tree.specs.Pieces.{Piece}
use Rattle.bit_tree.specs.Stream.{Stream, StreamTree}
use Rattle.record_table.specs.Faults.{records}
use Rattle.record_read.specs.Fields.{texts_of}
use Rattle.bitcode_read.specs.Head.Ahead.{first_module}
use Rattle.bitcode_read.specs.Sofar.{HasRoom, IsGoing}
use Rattle.bitcode_read.proofs.module.read_entries.Given as goal

abbrev pub invariant-entries : goal.invariant-entries
invariant-entries l =
    HasRoom l.sofar × (l.m.reader.spent ≡ false)
    × ((tree : StreamTree) (others : List Piece) (first : ℕ) → Stream l.bytes tree → IsGoing (texts_of l.texts) (first_module (records tree)) others first l.initial.m l.initial.sofar l.initial.known
    → IsGoing (texts_of l.texts) (first_module (records tree)) others first l.m l.sofar l.known)

abbrev pub decreases-entries : goal.decreases-entries
decreases-entries l = length l.m.reader.left

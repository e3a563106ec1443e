use Rattle.std.proofs.Common.{◌≡◌, ◌≤◌, ◌∷◌, false, length, map, List}
use Rattle.bit_tree.specs.Pieces.{Piece, ended}
use Rattle.record_table.specs.Faults.{Records}
use Rattle.record_read.specs.Entries.{IsBefore}
use Rattle.record_read.specs.Fields.{texts_of}
use Rattle.bitcode_read.specs.Ahead.Bodies.{names_given}
use Rattle.bitcode_read.specs.Ahead.Entries.{entry_count}
use Rattle.bitcode_read.proofs.OnAhead.Declaring.{IsDeclaring}
use Rattle.bitcode_read.proofs.ahead.declare.declare_block.Given as goal

abbrev pub invariant-entries : goal.invariant-entries
invariant-entries l = (l.reader.spent ≡ false) × (l.used ≤ length l.bodies)
    × ((inside : Records) (others : List Piece) → IsBefore l.initial.reader.left inside (ended ∷ others) → l.count ≡ entry_count inside → IsDeclaring (texts_of l.texts) (map names_given l.bodies) l.initial.arena inside others l.used l.arena l.due l.reader)

abbrev pub decreases-entries : goal.decreases-entries
decreases-entries l = length l.reader.left

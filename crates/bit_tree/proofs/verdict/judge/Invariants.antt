use Rattle.std.proofs.Common.{List, length}
use Rattle.bit_tree.specs.Pieces.{Piece}
use Rattle.bit_tree.proofs.Walking.{Came}
use Rattle.bit_tree.proofs.verdict.judge.Given as goal

abbrev pub invariant-judging : goal.invariant-judging
invariant-judging l = (pieces : List Piece) × Came l.bytes l.reader pieces

abbrev pub decreases-judging : goal.decreases-judging
decreases-judging l = length l.reader.cursor.rest

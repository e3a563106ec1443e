use Rattle.std.proofs.Common.{length}
use Rattle.bit_tree.proofs.Reading.{CameBy}
use Rattle.bit_tree.proofs.read.read_stream.Given as goal

abbrev pub invariant-loop-entries : goal.invariant-loop-entries
invariant-loop-entries l = CameBy l.bytes l.reader l.entries

abbrev pub decreases-loop-entries : goal.decreases-loop-entries
decreases-loop-entries l = length l.reader.cursor.rest

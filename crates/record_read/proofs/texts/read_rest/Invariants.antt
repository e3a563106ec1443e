use Rattle.record_table.specs.Walk.{count_left}
use Rattle.record_read.proofs.Gathering.{AreGathered}
use Rattle.record_read.proofs.texts.read_rest.Given as goal

abbrev pub invariant-bytes : goal.invariant-bytes
invariant-bytes l = AreGathered l.initial.reader l.reader (count_left l.initial.reader.walk) (count_left l.reader.walk) l.text l.are_bytes

abbrev pub decreases-bytes : goal.decreases-bytes
decreases-bytes l = count_left l.reader.walk

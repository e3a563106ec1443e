use Rattle.std.proofs.Common.{◌≤◌, ◌-◌}
use Rattle.record_read.proofs.Gathering.{AreGathered}
use Rattle.record_read.proofs.texts.read_bytes.Given as goal

abbrev pub invariant-bytes : goal.invariant-bytes
invariant-bytes l = AreGathered l.initial.reader l.reader l.count (l.count - l.place) l.text l.are_bytes × (l.place ≤ l.count)

abbrev pub decreases-bytes : goal.decreases-bytes
decreases-bytes l = l.count - l.place

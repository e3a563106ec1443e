use Rattle.std.proofs.Common.{◌≤◌, ◌-◌}
use Rattle.record_read.proofs.OnOpening.Naming.{IsFar}
use Rattle.record_read.proofs.opening.producer.read_name_bytes.Given as goal

abbrev pub invariant-bytes : goal.invariant-bytes
invariant-bytes l = IsFar l.initial.reader l.reader (17 - l.place) × (l.place ≤ 17)

abbrev pub decreases-bytes : goal.decreases-bytes
decreases-bytes l = 17 - l.place

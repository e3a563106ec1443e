use Rattle.std.proofs.Common.{◌≤◌, ◌-◌}
use Rattle.type_read.proofs.Gathered.{AreGathered}
use Rattle.bitcode_read.proofs.head.types.read_so_many.Given as goal

abbrev pub invariant-places : goal.invariant-places
invariant-places l = AreGathered l.types l.initial.reader l.reader l.count (l.count - l.place) l.list.items × (l.place ≤ l.count)

abbrev pub decreases-places : goal.decreases-places
decreases-places l = l.count - l.place

use Rattle.std.proofs.Common.{◌≤◌, ◌-◌}
use Rattle.type_read.proofs.Gathered.{AreGathered}
use Rattle.type_read.proofs.records.read_fields.Given as goal

abbrev pub invariant-fields : goal.invariant-fields
invariant-fields l = AreGathered l.count l.initial.reader l.reader l.size (l.size - l.place) l.fields.items × (l.place ≤ l.size)

abbrev pub decreases-fields : goal.decreases-fields
decreases-fields l = l.size - l.place

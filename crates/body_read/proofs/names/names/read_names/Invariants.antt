use Rattle.std.proofs.Common.{◌-◌}
use Rattle.body_read.proofs.OnNames.Running.{IsRunning}
use Rattle.body_read.proofs.names.names.read_names.Given as goal

abbrev pub invariant-names : goal.invariant-names
invariant-names l = IsRunning l.texts l.fn.reader l.reader l.fn.names l.names l.count l.place l.all_new

abbrev pub decreases-names : goal.decreases-names
decreases-names l = l.count - l.place

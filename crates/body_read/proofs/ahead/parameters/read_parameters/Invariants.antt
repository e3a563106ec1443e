use Rattle.std.proofs.Common.{◌-◌}
use Rattle.body_read.proofs.OnAhead.Naming.{IsNaming}
use Rattle.body_read.proofs.ahead.parameters.read_parameters.Given as goal

abbrev pub invariant-names : goal.invariant-names
invariant-names l = IsNaming l.texts l.fn.reader l.reader l.count l.place l.own l.names.items

abbrev pub decreases-names : goal.decreases-names
decreases-names l = l.count - l.place

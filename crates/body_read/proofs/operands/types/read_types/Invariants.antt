use Rattle.std.proofs.Common.{◌-◌}
use Rattle.record_table.specs.Fields.{ty}
use Rattle.body_read.specs.Operands.Found.{HasType, type_in}
use Rattle.body_read.proofs.OnOperands.Gathered.{Gathers}
use Rattle.body_read.proofs.operands.types.read_types.Given as goal

abbrev pub invariant-types : goal.invariant-types
invariant-types l = Gathers HasType type_in (λ k. (ty k).read) l.initial.m l.m l.count l.place l.types.items

abbrev pub decreases-types : goal.decreases-types
decreases-types l = l.count - l.place

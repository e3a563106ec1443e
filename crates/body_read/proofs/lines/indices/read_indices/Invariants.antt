use Rattle.std.proofs.Common.{◌-◌}
use Rattle.record_table.specs.Fields.{index}
use Rattle.body_read.proofs.OnOperands.Gathered.{Gathers}
use Rattle.body_read.specs.Lines.Kept.{HasIndex, index_in}
use Rattle.body_read.proofs.lines.indices.read_indices.Given as goal

abbrev pub invariant-indices : goal.invariant-indices
invariant-indices l = Gathers HasIndex index_in (λ k. index.read) l.initial.m l.m l.count l.place l.indices.items

abbrev pub decreases-indices : goal.decreases-indices
decreases-indices l = l.count - l.place

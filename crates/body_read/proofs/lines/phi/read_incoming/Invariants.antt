use Rattle.std.proofs.Common.{◌-◌}
use Rattle.record_table.specs.Lines.{incoming}
use Rattle.type_read.specs.Arena.Kept.{tree_at}
use Rattle.body_read.proofs.OnOperands.Gathered.{Gathers}
use Rattle.body_read.specs.Lines.Kept.{HasIncoming, incoming_in}
use Rattle.body_read.proofs.lines.phi.read_incoming.Given as goal

abbrev pub invariant-incoming : goal.invariant-incoming
invariant-incoming l = Gathers HasIncoming incoming_in (λ k. (incoming k (tree_at l.initial.m.growing.arena.table l.ty)).read) l.initial.m l.m l.count l.place l.incoming.items

abbrev pub decreases-incoming : goal.decreases-incoming
decreases-incoming l = l.count - l.place

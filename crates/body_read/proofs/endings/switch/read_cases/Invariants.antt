use Rattle.std.proofs.Common.{◌-◌}
use Rattle.record_table.specs.Lines.{case_of}
use Rattle.type_read.specs.Arena.Kept.{tree_at}
use Rattle.body_read.proofs.OnOperands.Gathered.{Gathers}
use Rattle.body_read.specs.Endings.Ends.{HasCase, case_in}
use Rattle.body_read.proofs.endings.switch.read_cases.Given as goal

abbrev pub invariant-cases : goal.invariant-cases
invariant-cases l = Gathers HasCase case_in (λ k. (case_of k (tree_at l.initial.m.growing.arena.table l.ty)).read) l.initial.m l.m l.count l.place l.cases.items

abbrev pub decreases-cases : goal.decreases-cases
decreases-cases l = l.count - l.place

use Rattle.std.proofs.Common.{◌-◌, ◌≤◌}
use Rattle.ir_run.proofs.Stretches.{Walking}
use Rattle.ir_run.proofs.stretch.walk.Given as goal

-- so many instructions were carried out
abbrev pub invariant-walking : goal.invariant-walking
invariant-walking l = (l.count ≤ l.most) × Walking l.program l.count l.fn.stack l.fn.memory l.stack l.memory

abbrev pub decreases-walking : goal.decreases-walking
decreases-walking l = l.most - l.count

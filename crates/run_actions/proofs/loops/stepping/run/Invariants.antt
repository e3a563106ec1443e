use Rattle.std.proofs.Common.{ℕ, ◌-◌}
use Rattle.run_rules.specs.Clauses.{outside}
use Rattle.run_rules.specs.Laws.Laws.{IsWithin}
use Rattle.run_actions.proofs.loops.stepping.run.Given as goal

-- so many steps were made
abbrev pub invariant-running : goal.invariant-running
invariant-running g l =
    (n : ℕ) × IsWithin l.bound n (g.M.Stepping.machine l.fn.machine) (g.M.Stepping.machine l.machine)
    (outside (g.I.Source.left l.fn.input) (g.I.Source.faults l.fn.input) (g.O.Sink.taken l.fn.output) (g.O.Sink.faults l.fn.output))
    (outside (g.I.Source.left l.input) (g.I.Source.faults l.input) (g.O.Sink.taken l.output) (g.O.Sink.faults l.output))

abbrev pub decreases-running : goal.decreases-running
decreases-running g l = l.bound - (g.M.Stepping.machine l.machine).steps

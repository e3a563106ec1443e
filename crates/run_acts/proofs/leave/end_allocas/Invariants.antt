use Rattle.std.proofs.Common.{length}
use Rattle.run_actions.specs.Stack.UnderWay.{newest}
use Rattle.run_acts.proofs.Leaving.{IsEnding}
use Rattle.run_acts.proofs.leave.end_allocas.Given as goal

-- so many allocas have ended
abbrev pub invariant-loop-alloca : goal.invariant-loop-alloca
invariant-loop-alloca l = IsEnding l.initial.stack l.initial.memory l.stack l.memory

abbrev pub decreases-loop-alloca : goal.decreases-loop-alloca
decreases-loop-alloca l = length (newest l.stack.frames).allocas

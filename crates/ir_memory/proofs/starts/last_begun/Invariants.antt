use Rattle.std.proofs.Common.{◌≤◌}
use Rattle.ir_memory.specs.Find.{HasNone}
use Rattle.ir_memory.proofs.starts.last_begun.Given as goal

abbrev pub invariant-loop-left : goal.invariant-loop-left
invariant-loop-left l = record {
  within : l.left ≤ l.to;
  none : HasNone l.kept l.left l.to l.address;
}

abbrev pub decreases-loop-left : goal.decreases-loop-left
decreases-loop-left l = l.left

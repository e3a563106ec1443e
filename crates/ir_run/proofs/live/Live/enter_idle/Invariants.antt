use Rattle.std.proofs.Common.{length}
use Rattle.ir_run.proofs.EnteringDue.{Entering}
use Rattle.ir_run.proofs.live.Live.enter_idle.Given as goal

abbrev pub invariant-idle : goal.invariant-idle
invariant-idle l =
    Entering l.fn.self (record {
      program = l.self-inside.program;
      stack = l.self-inside.stack;
      memory = l.self-inside.memory;
      due = l.self-inside.due;
      written = l.self-inside.room.written.items;
    })

abbrev pub decreases-idle : goal.decreases-idle
decreases-idle l = length l.self-inside.due

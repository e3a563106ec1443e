use Rattle.std.proofs.Common.{length, ◌-◌, ◌≡◌, ◌+◌, ◌≤◌, drop}
use Rattle.ir_lexer.specs.Class.{set_of}
use Rattle.ir_lexer.specs.Form.{run}
use Rattle.ir_lexer.proofs.run.run_of.Given as goal

abbrev pub invariant-loop-n : goal.invariant-loop-n
invariant-loop-n l = record {
  within : l.n ≤ length l.bytes;
  count : run (set_of l.set) l.bytes ≡ l.n + run (set_of l.set) (drop l.n l.bytes);
}

abbrev pub decreases-loop-n : goal.decreases-loop-n
decreases-loop-n l = length l.bytes - l.n

use Rattle.std.proofs.Common.{◌≡◌, length, drop}
use Rattle.run_actions.specs.Stack.Origins.{spread}
use Rattle.run_actions.proofs.stack.phis.spread.Given as goal

-- what the other phis get makes the whole
abbrev pub invariant-spreading : goal.invariant-spreading
invariant-spreading l = record {
  long : length l.leaves ≡ length l.fn.leaves;
  rest : spread l.first (drop l.place l.moves) (drop l.place l.scratch) l.leaves ≡ spread l.first l.moves l.scratch l.fn.leaves;
}

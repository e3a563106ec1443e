use Rattle.std.proofs.Common.{◌≡◌, ◌+◌, length, drop}
use Rattle.run_rules.specs.Frame.{with_leaves}
use Rattle.run_actions.proofs.stack.pool.write_at.Given as goal

-- what the other leaves set makes the whole
abbrev pub invariant-writing : goal.invariant-writing
invariant-writing l = record {
  long : length l.leaves ≡ length l.fn.leaves;
  rest : with_leaves l.leaves (l.at + l.place) (drop l.place l.value) ≡ with_leaves l.fn.leaves l.at l.value;
}

use Rattle.std.proofs.Common.{◌≡◌, ◌+◌, ◌≤◌, ◌++◌, length, take, drop}
use Rattle.std.specs.Prelude.{vec_len, vec_capacity}
use Rattle.run_actions.specs.Stack.Origins.{had_all}
use Rattle.run_actions.proofs.stack.pool.read_into.Given as goal

-- so many were read, and there is room for all
abbrev pub invariant-reading : goal.invariant-reading
invariant-reading l = record {
  done : l.into.items ≡ l.fn.into.items ++ had_all (drop l.first l.leaves) (take l.place l.origins);
  long : vec_len l.into ≡ vec_len l.fn.into + l.place;
  room : vec_len l.fn.into + length l.origins ≤ vec_capacity l.into;
}

use Rattle.std.proofs.Common.{◌≡◌, length, take, drop, map}
use Rattle.run_actions.specs.Stack.Origins.{had, origin_of}
use Rattle.run_actions.proofs.stack.phis.gather.Given as goal

-- the front of the scratch has what these phis are to get
abbrev pub invariant-gathering : goal.invariant-gathering
invariant-gathering l = record {
  long : length l.scratch ≡ length l.fn.scratch;
  done : take l.place l.scratch ≡ map (λ m. had (drop l.first l.leaves) (origin_of m.from)) (take l.place l.moves);
}

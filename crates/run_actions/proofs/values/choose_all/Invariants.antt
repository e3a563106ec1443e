use Rattle.std.proofs.Common.{◌≡◌, ◌≤◌, length, take, map}
use Rattle.std.specs.Prelude.{vec_len, vec_capacity}
use Rattle.ir_eval.specs.Operators.{select_of}
use Rattle.run_actions.specs.Operands.{leaf_of}
use Rattle.run_actions.proofs.values.choose_all.Given as goal

-- so many were chosen, and there is room for all
abbrev pub invariant-choosing : goal.invariant-choosing
invariant-choosing l = record {
  done : l.room.items ≡ map (λ a. select_of l.condition (leaf_of l.stack a.first) (leaf_of l.stack a.second)) (take l.place l.arms);
  long : vec_len l.room ≡ l.place;
  room : length l.arms ≤ vec_capacity l.room;
}

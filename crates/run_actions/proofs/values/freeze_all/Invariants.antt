use Rattle.std.proofs.Common.{◌≡◌, ◌≤◌, length, take, map}
use Rattle.std.specs.Prelude.{vec_len, vec_capacity}
use Rattle.ir_eval.specs.Operators.{freeze_of}
use Rattle.run_actions.specs.Operands.{leaf_of}
use Rattle.run_actions.proofs.values.freeze_all.Given as goal

-- so many were frozen, and there is room for all
abbrev pub invariant-freezing : goal.invariant-freezing
invariant-freezing l = record {
  done : l.room.items ≡ map (λ p. freeze_of p.pointer (leaf_of l.stack p.value)) (take l.place l.value);
  long : vec_len l.room ≡ l.place;
  room : length l.value ≤ vec_capacity l.room;
}

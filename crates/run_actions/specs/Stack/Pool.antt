-- For all calls of `Stack`: how its frames lie in one pool. Their marks stand the newest first, and behind the oldest
-- stands one that is no frame's.
use Rattle.std.specs.Prelude.{◌≡◌, ℕ, ◌+◌, ◌≤◌, List, [], ◌∷◌, length, take, drop, reverse}
use Rattle.ir_eval.specs.declared.value.Pointer.{Pointer}
use Rattle.ir_eval.specs.declared.value.Scalar.{Scalar}
use Rattle.run_rules.specs.State.{Frame, weight_limit}
use Rattle.run_actions.specs.declared.stack.mark.Mark.{Mark}
use Rattle.run_actions.specs.Stack.UnderWay.{UnderWay}

-- the frame stands at another place of its function
abbrev pub at_place : Mark → ℕ → ℕ → Mark
at_place m block position = record m { block = block; position = position }

-- the newest frame: its leaves and allocas are the last ones
abbrev pub frame_of : Mark → List Scalar → List Pointer → Frame
frame_of m leaves allocas =
    record {
      function = m.function;
      block = m.block;
      position = m.position;
      leaves = drop m.first leaves;
      allocas = reverse (drop m.allocas allocas);
      to = m.to;
    }

-- the frames, where m is the mark of the newest: what lies in front of it is the pool of the others
abbrev pub frames_of : List Scalar → List Pointer → Mark → List Mark → List Frame
frames_of leaves allocas m [] = []
frames_of leaves allocas m (n ∷ ns) = frame_of m leaves allocas ∷ frames_of (take m.first leaves) (take m.allocas allocas) n ns

-- Each frame begins within the pool that it ends, and the oldest begins at its front, where the mark of no frame stands
abbrev pub AreBehind : ℕ → ℕ → Mark → List Mark → Type 0
AreBehind leaves allocas m [] = (leaves ≡ 0) × (allocas ≡ 0) × (m.first ≡ 0)
AreBehind leaves allocas m (n ∷ ns) = (m.first ≤ leaves) × (m.allocas ≤ allocas) × AreBehind m.first m.allocas n ns

-- the frames lie one behind the other, and weigh no more than they may; the marks below the newest stand the oldest first
pub record IsPool (leaves allocas : ℕ) (top : Mark) (below : List Mark) : Type 0 where
  pub behind : AreBehind leaves allocas top (reverse below)
  pub light : length below + leaves ≤ weight_limit

-- what a clause sees of them
abbrev pub seen : List Scalar → List Pointer → Mark → List Mark → ℕ → UnderWay
seen leaves allocas top below widest = record { frames = frames_of leaves allocas top (reverse below); widest = widest }

use Rattle.std.proofs.Common.{◌≡◌, length, take, map}
use Rattle.run_actions.specs.Operands.{leaf_of}
use Rattle.run_acts.proofs.room.set_front.Given as goal

-- the front of the room has what these leaves are
abbrev pub invariant-reading : goal.invariant-reading
invariant-reading l = record {
  long : length l.room ≡ length l.fn.room;
  done : take l.place l.room ≡ map (leaf_of l.stack) (take l.place l.origins);
}

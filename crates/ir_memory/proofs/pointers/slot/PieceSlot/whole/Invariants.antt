use Rattle.std.proofs.Common.{◌≡◌, ℕ, ◌<◌, length, get_or, Some, None}
use Rattle.ir_memory.proofs.pointers.slot.PieceSlot.whole.Given as goal

abbrev pub invariant-places : goal.invariant-places
invariant-places l = record {
  long : length l.pieces ≡ 8;
  done : (j : ℕ) → j < l.k → get_or l.pieces j None ≡ Some (record { pointer = l.pointer; place = j });
}

use Rattle.std.proofs.Common.{◌≡◌, ℕ, ◌<◌, get_or, None}
use Rattle.ir_memory.proofs.pointers.slot.PieceSlot.is_clear.Given as goal

abbrev pub invariant-places : goal.invariant-places
invariant-places l = (j : ℕ) → j < l.k → get_or l.self.pieces j None ≡ None

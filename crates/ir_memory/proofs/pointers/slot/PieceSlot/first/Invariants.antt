use Rattle.std.proofs.Common.{◌≡◌, ℕ, ◌+◌, ◌*◌, ◌<◌, get_or, None}
use Rattle.std.specs.Prelude.{if◌then◌else◌}
use Rattle.ir_memory.specs.Pointers.Pieces.{is_within}
use Rattle.ir_memory.proofs.pointers.slot.PieceSlot.first.Given as goal

abbrev pub invariant-places : goal.invariant-places
invariant-places l = (j : ℕ) → j < l.k → (if is_within l.from l.to (8 * l.number + j) then get_or l.self.pieces j None else None) ≡ None

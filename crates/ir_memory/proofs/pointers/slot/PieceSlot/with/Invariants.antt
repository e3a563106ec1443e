use Rattle.std.proofs.Common.{◌≡◌, ℕ, ◌+◌, ◌*◌, ◌<◌, ◌≤◌, length, get_or, None}
use Rattle.std.specs.Prelude.{if◌then◌else◌}
use Rattle.std.specs.Ordering.{nat_cmp}
use Rattle.std.specs.BTreeMap as tree
use Rattle.ir_memory.specs.Pointers.Pieces.{is_within}
use Rattle.ir_memory.proofs.pointers.slot.PieceSlot.with.Given as goal

abbrev pub invariant-places : goal.invariant-places
invariant-places l = record {
  long : length l.pieces ≡ 8;
  done : (j : ℕ) → j < l.k → get_or l.pieces j None ≡ (if is_within l.from l.to (8 * l.number + j) then tree.get nat_cmp l.found (8 * l.number + j) else get_or l.fn.self.pieces j None);
  ahead : (j : ℕ) → l.k ≤ j → get_or l.pieces j None ≡ get_or l.fn.self.pieces j None;
}

use Rattle.std.proofs.Common.{◌≡◌, ℕ, ◌+◌, ◌<◌, get_or, length, None}
use Rattle.ir_memory.specs.declared.cell.Cell.TheVariants as cell
use Rattle.ir_memory.specs.Seen.{at, over}
use Rattle.ir_memory.proofs.read.read_pieces.Given as goal

abbrev pub invariant-loop-k : goal.invariant-loop-k
invariant-loop-k l = record {
  long : length l.cells ≡ 16;
  each : (j : ℕ) → j < l.k → get_or l.cells j cell.Poison ≡ over (at l.pieces (l.block.start + (l.offset + j))) (get_or l.block.bytes (l.offset + j) None);
}

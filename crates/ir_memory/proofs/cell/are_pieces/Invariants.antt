use Rattle.std.proofs.Common.{◌≡◌, drop}
use Rattle.ir_memory.specs.Cell.{are_pieces}
use Rattle.ir_memory.proofs.cell.are_pieces.Given as goal

abbrev pub invariant-loop-place : goal.invariant-loop-place
invariant-loop-place l = are_pieces l.pointer 0 l.cells ≡ are_pieces l.pointer l.place (drop l.place l.cells)

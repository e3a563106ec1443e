use Rattle.std.proofs.Common.{◌≡◌, ◌<◌, ◌≤◌, ◌-◌, ◌^◌, drop, length, Some}
use Rattle.ir_memory.specs.Cell.{number_of}
use Rattle.ir_memory.proofs.cell.number_of.Given as goal

abbrev pub invariant-loop-left : goal.invariant-loop-left
invariant-loop-left l = record {
  within : l.left ≤ length l.cells;
  number : number_of (drop l.left l.cells) ≡ Some l.number;
  fits : l.number < 256 ^ (length l.cells - l.left);
}

abbrev pub decreases-loop-left : goal.decreases-loop-left
decreases-loop-left l = l.left

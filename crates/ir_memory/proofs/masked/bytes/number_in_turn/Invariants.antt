use Rattle.std.proofs.Common.{◌≡◌, ◌<◌, ◌≤◌, ◌-◌, ◌^◌, drop, length}
use Rattle.ir_memory.specs.Masked.Masked.{number_of_bytes}
use Rattle.ir_memory.proofs.masked.bytes.number_in_turn.Given as goal

abbrev pub invariant-loop-left : goal.invariant-loop-left
invariant-loop-left l = record {
  within : l.left ≤ length l.bytes;
  number : number_of_bytes (drop l.left l.bytes) ≡ l.number;
  fits : l.number < 256 ^ (length l.bytes - l.left);
}

abbrev pub decreases-loop-left : goal.decreases-loop-left
decreases-loop-left l = l.left

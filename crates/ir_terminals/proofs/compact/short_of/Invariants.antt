use Rattle.std.proofs.Common.{◌≡◌, take, length}
use Rattle.ir_terminals.proofs.compact.short_of.Given as goal

-- the bytes so far are copied
abbrev pub invariant-loop-i : goal.invariant-loop-i
invariant-loop-i l = record {
  same : take l.i l.bytes ≡ take l.i l.given;
  room : length l.bytes ≡ 14;
}

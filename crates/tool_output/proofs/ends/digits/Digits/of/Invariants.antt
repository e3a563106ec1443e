use Rattle.std.proofs.Common.{◌≡◌, ◌≤◌, ◌++◌, length, drop}
use Rattle.std.specs.Fmt.{decimal}
use Rattle.tool_output.proofs.ends.digits.Digits.of.Given as goal

-- the digits of the rest go before those that stand
abbrev pub invariant-writing : goal.invariant-writing
invariant-writing l = record {
  room : length l.room ≡ 20;
  start : l.start ≤ 20;
  fits : length (decimal l.rest) ≤ l.start;
  stand : decimal l.number ≡ decimal l.rest ++ drop l.start l.room;
}

abbrev pub decreases-writing : goal.decreases-writing
decreases-writing l = l.rest

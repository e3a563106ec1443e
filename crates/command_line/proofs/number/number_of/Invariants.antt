use Rattle.std.proofs.Common.{◌≡◌, ◌≤◌, ◌^◌, drop, length, ◌<◌, false}
use Rattle.command_line.specs.Numbers.{leads_with_zero}
use Rattle.command_line.proofs.Numbers.{number_onto}
use Rattle.command_line.proofs.number.number_of.Given as goal

-- what the rest spells behind what was read
abbrev pub invariant-loop-digit : goal.invariant-loop-digit
invariant-loop-digit l = record {
  some : 0 < length l.digits;
  plain : leads_with_zero l.digits ≡ false;
  small : l.number ≤ 2 ^ 32;
  rest : number_onto l.number (drop l.digit-index l.digits) ≡ number_onto 0 l.digits;
}

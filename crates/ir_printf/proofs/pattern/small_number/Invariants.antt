use Rattle.std.proofs.Common.{◌≡◌, ◌≤◌, drop}
use Rattle.ir_printf.specs.Pattern.{decimal_after}
use Rattle.ir_printf.proofs.pattern.small_number.Given as goal

-- the digits so far, and those behind them, write the number
abbrev pub invariant-loop-digit : goal.invariant-loop-digit
invariant-loop-digit l = record {
  digits : decimal_after 0 l.digits ≡ decimal_after l.number (drop l.digit-index l.digits);
  small : l.number ≤ 4095;
}

use Rattle.std.proofs.Common.{◌≡◌, ◌-◌, drop, length}
use Rattle.ir_terminals.specs.Digits.{decimal}
use Rattle.ir_terminals.proofs.digits.without_zeros.Given as goal

-- the digits so far add nothing
abbrev pub invariant-zeros : goal.invariant-zeros
invariant-zeros l = decimal (drop l.i l.digits) ≡ decimal l.digits

abbrev pub decreases-zeros : goal.decreases-zeros
decreases-zeros l = length l.digits - l.i

use Rattle.std.proofs.Common.{◌≡◌, true, take}
use Rattle.std.specs.List.{list_all}
use Rattle.instruction_verify.specs.Last.ValuesById.{fits_here}
use Rattle.instruction_verify.proofs.last.values.all_fit.Given as goal

-- all so far pass
abbrev pub invariant-loop-operand : goal.invariant-loop-operand
invariant-loop-operand l = list_all (fits_here l.judge) (take l.operand-index l.operands) ≡ true

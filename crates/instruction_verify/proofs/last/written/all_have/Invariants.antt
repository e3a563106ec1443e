use Rattle.std.proofs.Common.{◌≡◌, true, take}
use Rattle.std.specs.List.{list_all}
use Rattle.instruction_verify.specs.Last.ValuesById.{has_own_type}
use Rattle.instruction_verify.proofs.last.written.all_have.Given as goal

-- all so far pass
abbrev pub invariant-loop-operand : goal.invariant-loop-operand
invariant-loop-operand l = list_all (has_own_type l.judge.table l.value_types) (take l.operand-index l.operands) ≡ true

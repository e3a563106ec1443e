use Rattle.std.proofs.Common.{◌≡◌, true, take}
use Rattle.std.specs.List.{list_all}
use Rattle.path_verify.specs.Ready.{operand_passes}
use Rattle.path_verify.proofs.own_operands.operands_pass.Given as goal

-- all so far pass
abbrev pub invariant-loop-operand : goal.invariant-loop-operand
invariant-loop-operand l = list_all (operand_passes l.judge.table l.value_types l.given) (take l.operand-index l.operands) ≡ true

use Rattle.std.proofs.Common.{map, take}
use Rattle.std.specs.Prelude.{flat_map}
use Rattle.run_rules.specs.Scope.{operand_in}
use Rattle.run_decode.specs.Scopes.Leaves.{Gains}
use Rattle.run_decode.specs.Scopes.Scopes.{operand_of, scope_in}
use Rattle.run_decode.proofs.scopes.leaves.push_operands.Given as goal

-- the leaves of the operands so far are there
abbrev pub invariant-operands : goal.invariant-operands
invariant-operands l =
    Gains l.fn.into.items l.into.items (flat_map (operand_in (scope_in l.scope.lists l.scope.function)) (map (operand_of l.scope.lists l.scope.function) (take l.operand-index l.operands)))

use Rattle.std.proofs.Common.{List, flat_map, map, append-nil, ap, arith}
use Rattle.std.proofs.lemmas.List.{take_all}
use Rattle.module_arena.specs.declared.instruction.Operand.{Operand}
use Rattle.run_rules.specs.Scope.{operand_in}
use Rattle.run_decode.specs.Scopes.Scopes.{operand_of, scope_in}
use Rattle.run_decode.proofs.OnScopes.Gained.{gains_same, item_more, mapped_join}
use Rattle.run_decode.proofs.scopes.leaves.push_operands.Goals as goal

pub operands-preserved : goal.operands-preserved
operands-preserved c =
    let s = c.args.scope.now in
    let sc = scope_in s.lists s.function in
    let x = c.operand-item.result in
    item_more (λ (o : Operand). operand_in sc (operand_of s.lists s.function o)) (λ (os : List Operand). flat_map (operand_in sc) (map (operand_of s.lists s.function) os))
    (mapped_join (operand_in sc) (operand_of s.lists s.function)) (λ o. append-nil (operand_in sc (operand_of s.lists s.function o)))
    c.args.operands.now c.operands.operand-index x x c.args.into.now.items c.operands.into.items c.push_value.new.into.items
    c.operands-test.true c.operand-item.is c.operands.invariant c.in_ok-push_value.ensures

pub returns : goal.returns
returns c =
    let s = c.args.scope.now in
    gains_same c.args.into.now.items c.operands.into.items _ _
    (ap (λ (os : List Operand). flat_map (operand_in (scope_in s.lists s.function)) (map (operand_of s.lists s.function) os)) (take_all c.operands.operand-index c.args.operands.now (omega arith))) c.operands.invariant

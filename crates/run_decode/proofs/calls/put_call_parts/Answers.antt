use Rattle.std.proofs.Common.{◌++◌, ℕ, List, Some, map, flat_map, refl, ap, ◌∙◌, subst}
use Rattle.module_arena.specs.declared.instruction.Operand.{Operand}
use Rattle.run_rules.specs.Scope.{operand_in}
use Rattle.run_decode.specs.declared.flat.action.CallParts.{CallParts}
use Rattle.run_decode.specs.Flat.Grown.{AreLeaves}
use Rattle.run_decode.specs.Scopes.Scopes.{operand_of, scope_in}
use Rattle.run_decode.specs.Signatures.Met.{written_as}
use Rattle.run_decode.proofs.Called.{parts_called, parts_grow, parts_numbered}
use Rattle.run_decode.proofs.calls.put_call_parts.Goals as goal

pub returns-clause-grows : goal.returns-clause-grows
returns-clause-grows c =
    let s = c.args.scope.now in
    let call = c.args.call.now in
    let one : CallParts = record { signature = c.in_ok-number.number; returns = call.signature.returns; parameters = c.in_ok-parameters.parameters; variadic = call.signature.variadic; shapes = c.in_ok-shapes.shapes; arguments = c.in_ok-arguments.arguments } in
    let shapes = c.in_ok-shapes.ensures.types ∙ ap (map (λ (o : Operand). o.ty)) c.as_slice.ensures in
    let arguments = subst (λ (os : List Operand). AreLeaves c.put_operands.new.pools one.arguments (flat_map (operand_in (scope_in s.lists s.function)) (map (operand_of s.lists s.function) os))) c.as_slice-2.ensures c.in_ok-arguments.ensures.leaves in
    let appended = c.in_ok-parameters.ensures.items ∙ ap (λ (ids : List ℕ). c.args.pools.now.types ++ ids) c.as_slice-parameters.ensures in
    parts_grow s call c.requires.call c.args.pools.now c.append.new.self c.put_types.new.pools c.put_operands.new.pools c.push.new.self one appended c.in_ok-parameters.ensures.span c.in_ok-shapes.ensures.grows c.in_ok-shapes.ensures.within shapes
    c.in_ok-arguments.ensures.grows arguments c.in_ok-place.ensures.items refl refl

pub returns-clause-numbered : goal.returns-clause-numbered
returns-clause-numbered c =
    let s = c.args.scope.now in
    let call = c.args.call.now in
    let one : CallParts = record { signature = c.in_ok-number.number; returns = call.signature.returns; parameters = c.in_ok-parameters.parameters; variadic = call.signature.variadic; shapes = c.in_ok-shapes.shapes; arguments = c.in_ok-arguments.arguments } in
    let shapes = c.in_ok-shapes.ensures.types ∙ ap (map (λ (o : Operand). o.ty)) c.as_slice.ensures in
    let arguments = subst (λ (os : List Operand). AreLeaves c.put_operands.new.pools one.arguments (flat_map (operand_in (scope_in s.lists s.function)) (map (operand_of s.lists s.function) os))) c.as_slice-2.ensures c.in_ok-arguments.ensures.leaves in
    let appended = c.in_ok-parameters.ensures.items ∙ ap (λ (ids : List ℕ). c.args.pools.now.types ++ ids) c.as_slice-parameters.ensures in
    let number = c.in_ok-number.ensures.number ∙ ap (λ (ids : List ℕ). Some (written_as c.args.signatures.now.lists call.signature.returns ids call.signature.variadic)) c.as_slice-parameters.ensures in
    parts_numbered s call c.requires.call c.args.pools.now c.append.new.self c.put_types.new.pools c.put_operands.new.pools c.push.new.self one appended c.in_ok-parameters.ensures.span c.in_ok-shapes.ensures.grows c.in_ok-shapes.ensures.within shapes
    c.in_ok-arguments.ensures.grows arguments c.in_ok-place.ensures.items refl refl c.args.signatures.now c.number.new.self c.number.ensures.numbers c.requires.lists number c.requires.numbered

pub returns-clause-call : goal.returns-clause-call
returns-clause-call c =
    let s = c.args.scope.now in
    let call = c.args.call.now in
    let one : CallParts = record { signature = c.in_ok-number.number; returns = call.signature.returns; parameters = c.in_ok-parameters.parameters; variadic = call.signature.variadic; shapes = c.in_ok-shapes.shapes; arguments = c.in_ok-arguments.arguments } in
    let shapes = c.in_ok-shapes.ensures.types ∙ ap (map (λ (o : Operand). o.ty)) c.as_slice.ensures in
    let arguments = subst (λ (os : List Operand). AreLeaves c.put_operands.new.pools one.arguments (flat_map (operand_in (scope_in s.lists s.function)) (map (operand_of s.lists s.function) os))) c.as_slice-2.ensures c.in_ok-arguments.ensures.leaves in
    let appended = c.in_ok-parameters.ensures.items ∙ ap (λ (ids : List ℕ). c.args.pools.now.types ++ ids) c.as_slice-parameters.ensures in
    parts_called s call c.requires.call c.args.pools.now c.append.new.self c.put_types.new.pools c.put_operands.new.pools c.push.new.self one appended c.in_ok-parameters.ensures.span c.in_ok-shapes.ensures.grows c.in_ok-shapes.ensures.within shapes
    c.in_ok-arguments.ensures.grows arguments c.in_ok-place.ensures.items refl refl c.in_ok-place.place c.in_ok-place.ensures.place

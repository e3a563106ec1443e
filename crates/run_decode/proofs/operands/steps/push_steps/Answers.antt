use Rattle.std.proofs.Common.{◌≤◌, List, All, ap, sym, ◌∙◌, subst, arith}
use Rattle.std.proofs.lemmas.List.Elements.{All-push}
use Rattle.module_arena.specs.declared.instruction.Operand.{Operand}
use Rattle.type_table.specs.declared.measure.TheConstants.{SIZE_LIMIT}
use Rattle.type_table.specs.Types.{Types}
use Rattle.run_rules.specs.Displace.{inner_term, known, number_of}
use Rattle.run_rules.specs.Leaves.{element, width}
use Rattle.run_rules.specs.Resolve.{index_in}
use Rattle.run_rules.specs.Scope.{scalar_in}
use Rattle.run_names.specs.Shapes.Shapes.{shape_in}
use Rattle.run_decode.specs.declared.operands.steps.Step.{Step}
use Rattle.run_decode.specs.Scopes.Scopes.{operand_of, scope_in}
use Rattle.run_decode.proofs.OnScopes.Shaped.{shapes_same}
use Rattle.run_decode.specs.Operands.Steps.{IsPlace, shape_at}
use Rattle.run_decode.proofs.OnOperands.Stepped.{at_end, one_further}
use Rattle.run_decode.proofs.operands.steps.push_steps.Goals as goal

pub step_from-step-requires : goal.step_from-step-requires
step_from-step-requires c = subst (λ (t : Types). IsPlace t c.indices.place) (sym c.types-types.ensures) c.indices.invariant.place

pub place_behind-place-requires-clause-place : goal.place_behind-place-requires-clause-place
place_behind-place-requires-clause-place c = subst (λ (t : Types). IsPlace t c.indices.place) (sym c.types-types.ensures) c.indices.invariant.place

pub indices-preserved : goal.indices-preserved
indices-preserved c =
    let s = c.args.scope.now in
    let a = s.lists in
    let x = c.operand-item.result in
    let place = c.indices.place in
    let types = c.types-types.ensures in
    let bits = c.width-bits.ensures ∙ ap (λ (t : Types). width (shape_in t x.ty)) types ∙ ap width (shapes_same a x.ty) in
    let term = c.step_from-step.ensures.term ∙ (λ j. inner_term (shape_at (types j) place) (record { origin = c.operand_leaf-index.ensures j; width = bits j })) in
    let shape =
    ap (λ (t : Types). shape_at t c.place_behind-place.result) (sym types)
    ∙ c.place_behind-place.ensures.shape
    ∙ ap (λ (t : Types). element (shape_at t place) (number_of (known (scalar_in (scope_in a s.function) (operand_of a s.function x))))) types in
    record {
      place = subst (λ (t : Types). IsPlace t c.place_behind-place.result) types c.place_behind-place.ensures.place;
      terms =
          one_further (λ (o : Operand). index_in (scope_in a s.function) (operand_of a s.function o)) c.args.indices.now c.indices.operand-index x x (shape_at a.table place) (shape_at a.table c.place_behind-place.result)
          c.indices.into.items c.push.new.self.items c.step_from-step.result _ c.indices-test.true c.operand-item.is term shape c.in_ok-push.ensures.items c.indices.invariant.terms;
      small = subst (λ (l : List Step). All (λ (t : Step). t.size ≤ SIZE_LIMIT) l) (sym c.in_ok-push.ensures.items) (All-push (λ (t : Step). t.size ≤ SIZE_LIMIT) c.indices.into.items c.step_from-step.result c.indices.invariant.small c.step_from-step.ensures.small);
    }

pub returns-clause-terms : goal.returns-clause-terms
returns-clause-terms c =
    let s = c.args.scope.now in
    at_end (λ (o : Operand). index_in (scope_in s.lists s.function) (operand_of s.lists s.function o)) c.args.indices.now c.indices.operand-index (shape_at s.lists.table c.indices.place) (shape_in s.lists.table c.args.source)
    c.args.into.now.items c.indices.into.items (omega arith) c.indices.invariant.terms

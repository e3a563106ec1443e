use Rattle.std.proofs.Common.{map, refl, ap, ◌∙◌}
use Rattle.std.specs.Prelude.{zip}
use Rattle.run_actions.specs.Values.{arm_of}
use Rattle.run_rules.specs.Scope.{operand_in}
use Rattle.run_actions.specs.Stack.Origins.{origin_of}
use Rattle.run_decode.specs.Scopes.Scopes.{operand_of, scope_in}
use Rattle.run_decode.proofs.OnScopes.Gained.{gained_whole}
use Rattle.run_decode.specs.Operands.Pairs.{arm_with}
use Rattle.run_decode.proofs.OnOperands.Paired.{mapped_pairs}
use Rattle.run_decode.proofs.OnOperands.Placed.{arms_put}
use Rattle.run_decode.proofs.operands.leaves.put_arms.Goals as goal

pub returns-clause-arms : goal.returns-clause-arms
returns-clause-arms c =
    let s = c.args.scope.now in
    let first = operand_in (scope_in s.lists s.function) (operand_of s.lists s.function c.args.first) in
    let second = operand_in (scope_in s.lists s.function) (operand_of s.lists s.function c.args.second) in
    let one = ap (map origin_of) c.deref.ensures.value ∙ gained_whole c.new-chosen.result.items c.push_value.new.into.items first c.new-chosen.ensures.items c.in_ok-push_value.ensures in
    let other = ap (map origin_of) c.deref-2.ensures.value ∙ gained_whole c.new-others.result.items c.push_value-2.new.into.items second c.new-others.ensures.items c.in_ok-push_value-2.ensures in
    arms_put c.append.result c.args.pools.now c.append.new.self c.deref-3.result.now (zip first second) c.append.ensures.span c.append.ensures.items
    (ap (map arm_of) (c.deref-3.ensures.value ∙ c.in_ok-arms.ensures) ∙ mapped_pairs arm_with arm_of origin_of origin_of (λ x y. refl) c.deref.result.now c.deref-2.result.now ∙ (λ j. zip (one j) (other j)))

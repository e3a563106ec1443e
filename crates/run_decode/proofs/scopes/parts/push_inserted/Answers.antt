use Rattle.std.proofs.Common.{◌+◌, map, ap, ◌∙◌}
use Rattle.run_rules.specs.Resolve.{inserted}
use Rattle.run_rules.specs.Scope.{operand_in}
use Rattle.run_actions.specs.Stack.Origins.{origin_of}
use Rattle.run_decode.specs.Scopes.Leaves.{Gains}
use Rattle.run_decode.specs.Scopes.Scopes.{operand_of, scope_in}
use Rattle.run_decode.proofs.OnScopes.Answered.{on_also}
use Rattle.run_decode.proofs.OnScopes.Gained.{gained_whole, gains_same}
use Rattle.run_decode.proofs.OnScopes.Parted.{behind_is, front_is, replaced}
use Rattle.run_decode.proofs.scopes.parts.push_inserted.Goals as goal

pub returns : goal.returns
returns c =
    let s = c.args.scope.now in
    let sc = scope_in s.lists s.function in
    let o = operand_of s.lists s.function c.args.aggregate in
    let n = operand_of s.lists s.function c.args.new in
    let old = c.args.into.now.items in
    let new = c.push_all-2.new.into.items in
    let whole = gained_whole c.new-whole.result.items c.push_value.new.into.items (operand_in sc o) c.new-whole.ensures.items c.in_ok-push_value.ensures in
    let first = ap (map origin_of) c.front.ensures ∙ front_is c.deref.result.now (operand_in sc o) c.leaves_to-before.result.0 _ (ap (map origin_of) c.deref.ensures.value ∙ whole) c.leaves_to-before.ensures.before in
    let last = ap (map origin_of) c.behind.ensures ∙ behind_is c.deref-2.result.now (operand_in sc o) (c.leaves_to-before.result.0 + c.leaves_to-before.result.1) _ (ap (map origin_of) c.deref-2.ensures.value ∙ whole) (λ j. c.leaves_to-before.ensures.before j + c.leaves_to-before.ensures.count j) in
    on_also c.push_all-2.result (Gains c.push_value-2.new.into.items new (map origin_of c.behind.result.now)) (Gains old new (inserted sc o n c.args.indices.now)) c.push_all-2.ensures
    (λ h. replaced old c.push_all.new.into.items c.push_value-2.new.into.items new _ _ _ (gains_same old c.push_all.new.into.items _ _ first c.in_ok-push_all.ensures) c.in_ok-push_value-2.ensures (gains_same c.push_value-2.new.into.items new _ _ last h))

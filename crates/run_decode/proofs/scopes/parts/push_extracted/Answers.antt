use Rattle.std.proofs.Common.{map, ap, ◌∙◌}
use Rattle.run_rules.specs.Resolve.{extracted}
use Rattle.run_rules.specs.Scope.{operand_in}
use Rattle.run_actions.specs.Stack.Origins.{origin_of}
use Rattle.run_decode.specs.Scopes.Leaves.{Gains}
use Rattle.run_decode.specs.Scopes.Scopes.{operand_of, scope_in}
use Rattle.run_decode.proofs.OnScopes.Answered.{on_also}
use Rattle.run_decode.proofs.OnScopes.Gained.{gained_whole, gains_same}
use Rattle.run_decode.proofs.OnScopes.Parted.{behind_is, front_is}
use Rattle.run_decode.proofs.scopes.parts.push_extracted.Goals as goal

pub returns : goal.returns
returns c =
    let s = c.args.scope.now in
    let sc = scope_in s.lists s.function in
    let o = operand_of s.lists s.function c.args.aggregate in
    let old = c.args.into.now.items in
    let new = c.push_all.new.into.items in
    let whole = ap (map origin_of) c.deref.ensures.value ∙ gained_whole c.new-whole.result.items c.push_value.new.into.items (operand_in sc o) c.new-whole.ensures.items c.in_ok-push_value.ensures in
    let rest = ap (map origin_of) c.behind.ensures ∙ behind_is c.deref.result.now (operand_in sc o) c.leaves_to-before.result.0 _ whole c.leaves_to-before.ensures.before in
    let same = ap (map origin_of) c.front.ensures ∙ front_is c.behind.result.now _ c.leaves_to-before.result.1 _ rest c.leaves_to-before.ensures.count in
    on_also c.push_all.result (Gains old new (map origin_of c.front.result.now)) (Gains old new (extracted sc o c.args.indices.now)) c.push_all.ensures (λ h. gains_same old new _ _ same h)

use Rattle.std.proofs.Common.{List, IfOk, map, ap, ◌∙◌, subst}
use Rattle.run_rules.specs.Action as actions
use Rattle.run_actions.specs.Stack.Origins.{origin_of}
use Rattle.run_decode.specs.Flat.Grown.{AreLeaves}
use Rattle.run_decode.proofs.OnScopes.Gained.{gained_whole}
use Rattle.run_decode.proofs.operands.operands.put_operands.Goals as goal

pub returns-clause-leaves : goal.returns-clause-leaves
returns-clause-leaves c =
    subst (λ (os : List actions.Origin). IfOk c.put_leaves.result (λ span. AreLeaves c.put_leaves.new.pools span os))
    (ap (map origin_of) c.deref.ensures.value ∙ gained_whole c.new-leaves.result.items c.push_operands.new.into.items _ c.new-leaves.ensures.items c.in_ok-push_operands.ensures) c.put_leaves.ensures.leaves

use Rattle.std.proofs.Common.{length}
use Rattle.run_actions.proofs.OnStack.Allocas.{pool_more}
use Rattle.run_actions.proofs.OnStack.Seen.{one_more_seen}
use Rattle.run_actions.proofs.stack.stack.Stack.push_alloca.Goals as goal

pub invariant_of-self-2 : goal.invariant_of-self-2
invariant_of-self-2 c =
    let s = c.self.inside in
    rw c.in_ok-push.ensures.items (pool_more s.leaves.items s.allocas.items s.top s.below.items c.args.alloca (rw (← c.self.view_is) at c.requires) c.self.invariant)

pub returns-clause-ok : goal.returns-clause-ok
returns-clause-ok c =
    let s = c.self.inside in
    rw c.in_ok-push.ensures.items (one_more_seen s.leaves.items s.allocas.items s.top s.below.items (length s.scratch.items) c.args.self.now c.self.view_is c.self.invariant c.args.alloca)

use Rattle.std.proofs.Common.{length, arith}
use Rattle.run_actions.proofs.OnStack.Seen.{weight_seen}
use Rattle.run_actions.proofs.stack.stack.Stack.weight.Goals as goal

pub returns-clause-value : goal.returns-clause-value
returns-clause-value c =
    let s = c.self.inside in
    omega (arith, weight_seen s.leaves.items s.allocas.items s.top s.below.items (length s.scratch.items) c.args.self.now c.self.view_is c.self.invariant, s.below.ok.0, s.leaves.ok.0)

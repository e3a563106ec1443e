use Rattle.std.proofs.Common.{length, ◌∙◌}
use Rattle.run_actions.proofs.OnStack.Seen.{first_seen, in_seen, read_seen}
use Rattle.run_actions.proofs.stack.stack.Stack.read.Goals as goal

pub read_at-requires-clause-there : goal.read_at-requires-clause-there
read_at-requires-clause-there c =
    let s = c.self.inside in
    rw c.deref.ensures.value (first_seen s.leaves.items s.allocas.items s.top s.below.items (length s.scratch.items) c.args.self.now c.self.view_is c.self.invariant)

pub read_at-requires-clause-within : goal.read_at-requires-clause-within
read_at-requires-clause-within c =
    let s = c.self.inside in
    rw c.deref.ensures.value (in_seen s.leaves.items s.allocas.items s.top s.below.items (length s.scratch.items) c.args.self.now c.self.view_is c.self.invariant c.args.origin.now c.requires)

pub returns : goal.returns
returns c =
    let s = c.self.inside in
    (rw c.deref.ensures.value at c.read_at.ensures) ∙ read_seen s.leaves.items s.allocas.items s.top s.below.items (length s.scratch.items) c.args.self.now c.self.view_is c.self.invariant c.args.origin.now

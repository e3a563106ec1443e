use Rattle.std.proofs.Common.{length, refl, ap, arith}
use Rattle.run_rules.specs.State.{Frame}
use Rattle.run_actions.proofs.OnStack.Changes.{pool_alike}
use Rattle.run_actions.proofs.OnStack.Seen.{newest_seen, moved_on_seen}
use Rattle.run_actions.proofs.stack.stack.Stack.move_on.Goals as goal

pub overflow_add-top : goal.overflow_add-top
overflow_add-top c =
    let s = c.self.inside in
    omega (arith, c.requires.room, ap (λ (f : Frame). f.position) (newest_seen s.leaves.items s.allocas.items s.top s.below.items (length s.scratch.items) c.args.self.now c.self.view_is c.requires.running))

pub invariant_of-self : goal.invariant_of-self
invariant_of-self c =
    let s = c.self.inside in
    pool_alike (length s.leaves.items) (length s.allocas.items) s.top _ s.below.items refl refl c.self.invariant

pub returns : goal.returns
returns c =
    let s = c.self.inside in
    moved_on_seen s.leaves.items s.allocas.items s.top s.below.items (length s.scratch.items) c.args.self.now c.self.view_is c.requires.running

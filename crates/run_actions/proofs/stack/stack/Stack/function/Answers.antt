use Rattle.std.proofs.Common.{length, sym, ap}
use Rattle.run_rules.specs.State.{Frame}
use Rattle.run_actions.proofs.OnStack.Seen.{newest_seen}
use Rattle.run_actions.proofs.stack.stack.Stack.function.Goals as goal

pub returns : goal.returns
returns c =
    let s = c.self.inside in
    sym (ap (λ (f : Frame). f.function) (newest_seen s.leaves.items s.allocas.items s.top s.below.items (length s.scratch.items) c.args.self.now c.self.view_is c.requires))

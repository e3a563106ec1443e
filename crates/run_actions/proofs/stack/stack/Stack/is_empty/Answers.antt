use Rattle.std.proofs.Common.{length, ap, ◌≡◌, ◌∙◌, eqb, arith}
use Rattle.std.specs.Prelude.{vec_len}
use Rattle.run_actions.proofs.OnStack.Seen.{count_seen}
use Rattle.run_actions.proofs.stack.stack.Stack.is_empty.Goals as goal

pub returns : goal.returns
returns c =
    let s = c.self.inside in
    let many : vec_len s.below ≡ length c.args.self.now.frames = omega (arith, count_seen s.leaves.items s.allocas.items s.top s.below.items (length s.scratch.items) c.args.self.now c.self.view_is, s.below.ok.0) in
    c.is_empty.ensures ∙ ap (λ n. eqb n 0) many

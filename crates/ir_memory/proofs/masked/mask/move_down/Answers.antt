use Rattle.std.proofs.Common.{◌+◌, ◌∙◌, inr, arith}
use Rattle.ir_memory.specs.Masked.Masked.{is_marked}
use Rattle.ir_memory.proofs.OnMasked.Steps.{step_up, outside}
use Rattle.ir_memory.proofs.masked.mask.move_down.Goals as goal

pub loop-k-preserved : goal.loop-k-preserved
loop-k-preserved c = record {
  len = c.set.ensures.len ∙ c.loop-k.invariant.len;
  marks = λ q. step_up (λ k. is_marked c.args.words.now k) (λ k. is_marked c.args.words.now k) (is_marked c.loop-k.words q) _ c.has-to.result c.args.at c.args.from c.loop-k.k q (c.has-to.ensures ∙ outside (λ k. is_marked c.args.words.now k) _ c.args.at (c.args.at + c.loop-k.k) (c.args.from + c.loop-k.k) _ (inr (omega arith)) (c.loop-k.invariant.marks (c.args.from + c.loop-k.k))) (c.loop-k.invariant.marks q) (c.set.ensures.marks q);
}

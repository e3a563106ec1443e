use Rattle.std.proofs.Common.{◌+◌, ◌-◌, ◌∙◌, inl, arith}
use Rattle.ir_memory.specs.Masked.Masked.{is_marked}
use Rattle.ir_memory.proofs.OnMasked.Steps.{step_down, outside}
use Rattle.ir_memory.proofs.masked.mask.move_up.Goals as goal

pub loop-left-preserved : goal.loop-left-preserved
loop-left-preserved c = record {
  most = omega arith;
  len = c.set.ensures.len ∙ c.loop-left.invariant.len;
  marks = λ q. step_down (λ k. is_marked c.args.words.now k) (λ k. is_marked c.args.words.now k) (is_marked c.loop-left.words q) _ c.has-to.result c.args.at c.args.from (c.loop-left.left - 1) c.loop-left.left c.args.count q (omega arith) (omega arith) (c.has-to.ensures ∙ outside (λ k. is_marked c.args.words.now k) _ (c.args.at + c.loop-left.left) (c.args.at + c.args.count) (c.args.from + (c.loop-left.left - 1)) _ (inl (omega arith)) (c.loop-left.invariant.marks (c.args.from + (c.loop-left.left - 1)))) (c.loop-left.invariant.marks q) (c.set.ensures.marks q);
}

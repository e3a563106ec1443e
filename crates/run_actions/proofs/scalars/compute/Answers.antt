use Rattle.std.proofs.Common.{◌∙◌}
use Rattle.ir_eval.specs.Operators.{binary_of}
use Rattle.run_actions.proofs.Carried.{computes}
use Rattle.run_actions.proofs.scalars.compute.Goals as goal

pub returns : goal.returns
returns c =
    let a = c.args in
    computes a.to a.opcode a.flags a.width a.left.now a.right.now a.stack.now c.give.new.stack c.in_ok-leaf.leaf c.requires.on.running c.give.ensures
    (c.in_ok-leaf.ensures.value ∙ (λ i. binary_of a.opcode a.flags a.width (c.read.ensures i) (c.read-2.ensures i)))

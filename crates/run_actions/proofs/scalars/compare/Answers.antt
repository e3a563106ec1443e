use Rattle.std.proofs.Common.{◌∙◌}
use Rattle.ir_eval.specs.Compare.{compare_of}
use Rattle.run_actions.proofs.Carried.{compares}
use Rattle.run_actions.proofs.scalars.compare.Goals as goal

pub returns : goal.returns
returns c =
    let a = c.args in
    compares a.to a.predicate a.samesign a.width a.left.now a.right.now a.stack.now c.give.new.stack c.compare-leaf.result c.requires.on.running c.give.ensures
    (c.compare-leaf.ensures.value ∙ (λ i. compare_of a.predicate a.samesign a.width (c.read.ensures i) (c.read-2.ensures i)))

use Rattle.std.proofs.Common.{◌∙◌}
use Rattle.ir_eval.specs.Cast.{cast_of}
use Rattle.run_actions.proofs.Carried.{converts}
use Rattle.run_actions.proofs.scalars.convert.Goals as goal

pub returns : goal.returns
returns c =
    let a = c.args in
    converts a.to a.opcode a.flags a.from_width a.to_width a.value.now a.stack.now c.give.new.stack c.cast-leaf.result c.requires.on.running c.give.ensures
    (c.cast-leaf.ensures.value ∙ (λ i. cast_of a.opcode a.flags a.from_width a.to_width (c.read.ensures i)))

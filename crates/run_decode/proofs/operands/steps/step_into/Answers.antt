use Rattle.std.proofs.Common.{◌∙◌}
use Rattle.run_names.specs.Shapes.Shapes.{shape_in}
use Rattle.run_decode.specs.Operands.Steps.{index_at}
use Rattle.run_decode.proofs.OnOperands.Stepped.{over_elements}
use Rattle.run_decode.proofs.operands.steps.step_into.Goals as goal

pub step_over-requires-clause-laid : goal.step_over-requires-clause-laid
step_over-requires-clause-laid c = c.in-Some.ensures.laid c.requires.laid

pub returns-in-Some-clause-term : goal.returns-in-Some-clause-term
returns-in-Some-clause-term c =
    let t = c.args.types.now in
    c.step_over.ensures.term ∙ over_elements (shape_in t c.args.ty) (shape_in t c.in-Some.part) (index_at c.args.index c.args.width) c.in-Some.ensures.shape

pub returns-in-None-clause-term : goal.returns-in-None-clause-term
returns-in-None-clause-term c = c.step_to_field.ensures.term c.args.width

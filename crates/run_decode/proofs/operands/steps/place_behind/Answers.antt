use Rattle.std.proofs.Common.{ap, ◌∙◌}
use Rattle.run_rules.specs.Action as actions
use Rattle.run_rules.specs.Displace.{known, number_of}
use Rattle.run_rules.specs.Leaves.{element}
use Rattle.run_decode.specs.Operands.Steps.{shape_at}
use Rattle.run_decode.proofs.operands.steps.place_behind.Goals as goal

pub returns-clause-shape : goal.returns-clause-shape
returns-clause-shape c = c.place_in.ensures.shape ∙ ap (λ (o : actions.Origin). element (shape_at c.args.types.now c.args.place) (number_of (known o))) c.operand_leaf-index.ensures

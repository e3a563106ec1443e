use Rattle.std.proofs.Common.{ap, ◌∙◌}
use Rattle.type_table.specs.Types.{Types}
use Rattle.run_rules.specs.Leaves.{width}
use Rattle.run_names.specs.Shapes.Shapes.{shape_in}
use Rattle.run_decode.proofs.Meant.{convert_meant}
use Rattle.run_decode.proofs.operations.put_convert.Goals as goal

pub returns-clause-action : goal.returns-clause-action
returns-clause-action c =
    let from = c.width.ensures ∙ ap (λ (t : Types). width (shape_in t c.args.operand.now.ty)) c.types.ensures in
    let towards = c.width-2.ensures ∙ ap (λ (t : Types). width (shape_in t c.args.ty)) c.types-2.ensures in
    convert_meant c.args.scope.now c.put_scalar.new.pools c.args.operation.0 c.args.operation.1 c.args.to c.to.result c.width.result c.width-2.result c.args.ty c.args.operand.now c.in_ok-value.value c.to.ensures from towards c.in_ok-value.ensures.leaf

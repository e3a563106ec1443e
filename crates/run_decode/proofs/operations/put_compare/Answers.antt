use Rattle.std.proofs.Common.{ap, ◌∙◌}
use Rattle.type_table.specs.Types.{Types}
use Rattle.run_rules.specs.Leaves.{width}
use Rattle.run_names.specs.Shapes.Shapes.{shape_in}
use Rattle.run_decode.proofs.OnFlat.Growth.{adds_then}
use Rattle.run_decode.proofs.Meant.{compare_meant}
use Rattle.run_decode.proofs.operations.put_compare.Goals as goal

pub returns-clause-grows : goal.returns-clause-grows
returns-clause-grows c = adds_then c.args.pools.now c.put_scalar.new.pools c.put_second.new.pools c.in_ok-first.ensures.grows c.in_ok-second.ensures.grows

pub returns-clause-action : goal.returns-clause-action
returns-clause-action c =
    let bits = c.width.ensures ∙ ap (λ (t : Types). width (shape_in t c.args.left.now.ty)) c.types.ensures in
    compare_meant c.args.scope.now c.put_scalar.new.pools c.put_second.new.pools c.in_ok-second.ensures.grows c.args.operation.0 c.args.operation.1 c.args.to c.to.result c.width.result c.has.result c.args.left.now c.args.right c.in_ok-first.first
    c.in_ok-second.second c.to.ensures c.has.ensures bits c.in_ok-first.ensures.leaf c.in_ok-second.ensures.leaf

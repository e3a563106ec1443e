use Rattle.std.proofs.Common.{◌&&◌, map, ◌∙◌}
use Rattle.std.specs.Bool.{beq}
use Rattle.type_table.proofs.ShapeMeasures.{and_assoc}
use Rattle.linkage_rules.specs.SameShape.{same_shape}
use Rattle.run_rules.specs.Calls.{same_shape_list}
use Rattle.run_names.specs.Shapes.Shapes.{shape_in}
use Rattle.run_names.specs.Types.Wanted.{shape_wanted}
use Rattle.run_names.proofs.types.row.is_type.Goals as goal

pub returns : goal.returns
returns c =
    let t = c.args.types.now in
    let w = c.args.written.now in
    let variadic = beq w.variadic c.args.variadic in
    (λ j. (c.is_wanted-returned.ensures j && c.are_wanted-taken.ensures j) && variadic)
    ∙ and_assoc (same_shape (shape_in t w.returns) (shape_wanted c.args.returns)) (same_shape_list (map (shape_in t) w.parameters.now) (map shape_wanted c.args.parameters.now)) variadic

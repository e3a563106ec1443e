use Rattle.std.proofs.Common.{◌&&◌, map, [], ◌∷◌, true, ◌∙◌}
use Rattle.std.specs.Bool.{beq}
use Rattle.linkage_rules.specs.SameShape.{same_shape}
use Rattle.run_rules.specs.Calls.{same_shape_list, same_signature}
use Rattle.run_names.specs.Shapes.Shapes.{shape_in}
use Rattle.run_names.specs.Types.Wanted.{written_as}
use Rattle.run_names.proofs.OnTypes.Asked.{is_it_true, one_of_one}
use Rattle.type_table.specs.Shape.{int_leaf, ptr_leaf}
use Rattle.type_table.proofs.ShapeMeasures.{and_assoc}
use Rattle.run_names.proofs.types.row.fits_printf.Goals as goal

pub returns : goal.returns
returns c =
    let t = c.args.types.now in
    let used = written_as t c.args.returns c.args.parameters.now c.args.variadic in
    (λ j. (c.is_wanted-returned.ensures j && c.are_wanted-taken.ensures j) && is_it_true c.args.variadic j)
    ∙ and_assoc (same_shape (shape_in t c.args.returns) (int_leaf 32)) (same_shape_list (map (shape_in t) c.args.parameters.now) (ptr_leaf ∷ [])) (beq c.args.variadic true)
    ∙ one_of_one (same_signature used) (record { returns = int_leaf 32; parameters = ptr_leaf ∷ []; variadic = true })

use Rattle.std.proofs.Common.{◌∙◌}
use Rattle.type_table.specs.Outline.{parts_of}
use Rattle.run_names.specs.Shapes.Shapes.{shape_in, shapes_in}
use Rattle.run_names.proofs.OnTypes.Asked.{plain_told}
use Rattle.run_names.proofs.types.wanted.is_wanted.Goals as goal

pub returns : goal.returns
returns c =
    let t = c.args.types.now in
    c.is_plain.ensures
    ∙ plain_told (shape_in t c.args.ty) c.form_of.result (shapes_in t (parts_of t c.args.ty)) c.args.wanted c.form_of.ensures.shape c.in_default.not-Pair

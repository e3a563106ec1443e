use Rattle.std.proofs.Common.{◌∙◌}
use Rattle.type_table.specs.Outline.{parts_of}
use Rattle.run_names.specs.Shapes.Shapes.{shape_in, shapes_in}
use Rattle.run_names.specs.declared.types.wanted.Wanted.TheVariants as wanted
use Rattle.run_names.proofs.OnTypes.Asked.{integer_is_no_pair, plain_told}
use Rattle.run_names.proofs.types.wanted.is_integer.Goals as goal

pub returns : goal.returns
returns c =
    let t = c.args.types.now in
    c.is_plain.ensures
    ∙ plain_told (shape_in t c.args.ty) c.form_of.result (shapes_in t (parts_of t c.args.ty)) (wanted.Int c.args.width) c.form_of.ensures.shape (λ w e. integer_is_no_pair c.args.width w e)

use Rattle.std.proofs.Common.{is_some, ap, sym, ◌∙◌}
use Rattle.run_names.proofs.OnShapes.Outlines.{layout_is}
use Rattle.run_names.proofs.shapes.form.layout_of.Goals as goal

pub unwrap-requires : goal.unwrap-requires
unwrap-requires c = ap is_some c.layout.ensures ∙ c.requires.laid

pub returns : goal.returns
returns c = layout_is c.args.types.now c.args.ty c.unwrap.result (sym c.layout.ensures ∙ c.unwrap.ensures)

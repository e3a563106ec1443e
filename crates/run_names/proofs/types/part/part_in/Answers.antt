use Rattle.std.proofs.Common.{ap, sym, ◌∙◌, subst}
use Rattle.std.proofs.lemmas.Bool.{false≢true}
use Rattle.type_table.specs.Layout as layouts
use Rattle.run_names.specs.Shapes.Shapes.{HasElement, shape_in}
use Rattle.run_names.proofs.OnShapes.Counted.{part_laid}
use Rattle.run_names.proofs.OnShapes.Outlines.{laid_is}
use Rattle.run_names.proofs.types.part.part_in.Goals as goal

pub unreachable-requires : goal.unreachable-requires
unreachable-requires c =
    let t = c.args.types.now in
    let there = subst (HasElement (shape_in t c.args.part.ty)) (sym c.from.ensures) c.requires.there in
    let laid = part_laid (shape_in t c.args.part.ty) c.from.result there (laid_is t c.args.part.ty c.requires.laid) in
    absurd (false≢true (ap layouts.has_layout c.in-None.ensures.shape ∙ laid))

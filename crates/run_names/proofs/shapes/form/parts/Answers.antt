use Rattle.std.proofs.Common.{◌<◌, length, sym, subst, All}
use Rattle.type_table.specs.Outline.{type_nesting}
use Rattle.type_table.proofs.Outlined.{parts_known}
use Rattle.run_names.proofs.OnShapes.Outlines.{nested_parts}
use Rattle.run_names.proofs.shapes.form.parts.Goals as goal

pub returns-clause-known : goal.returns-clause-known
returns-clause-known c =
    let t = c.args.types.now in
    subst (All (λ part. part < length t.types)) (sym c.parts_at.ensures) (parts_known t c.type_count-count.ensures.good c.args.ty c.requires)

pub returns-clause-nested : goal.returns-clause-nested
returns-clause-nested c =
    let t = c.args.types.now in
    subst (All (λ part. type_nesting t part < type_nesting t c.args.ty)) (sym c.parts_at.ensures)
    (nested_parts t c.type_count-count.ensures.good c.type_count-count.ensures.within c.args.ty c.requires)

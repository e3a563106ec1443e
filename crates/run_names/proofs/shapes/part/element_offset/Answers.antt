use Rattle.std.proofs.Common.{◌≡◌, ℕ, Option, ap, sym, ◌∙◌, arith, unwrap_or}
use Rattle.std.specs.Prelude.{option_and_then}
use Rattle.type_table.specs.Layout.{offset}
use Rattle.type_table.specs.Shape.{Shape, void_leaf}
use Rattle.run_names.specs.Shapes.Shapes.{shape_in}
use Rattle.run_names.proofs.OnShapes.Counted.{none_so_far, offset_is}
use Rattle.run_names.proofs.OnShapes.Outlines.{laid_is, shape_fits, shape_there}
use Rattle.run_names.proofs.shapes.part.element_offset.Goals as goal

pub returns-then-index-ge-FIELDS : goal.returns-then-index-ge-FIELDS
returns-then-index-ge-FIELDS c =
    let t = c.args.types.now in
    let far = c.if-index-ge-FIELDS.true in
    sym (none_so_far (shape_in t c.args.ty) c.args.index (shape_fits t c.type_count-count.ensures.good c.type_count-count.ensures.within c.args.ty c.requires.known).parts_fit (omega (arith, far)))

pub returns : goal.returns
returns c =
    let t = c.args.types.now in
    let there = shape_there t c.type_count-count.ensures.good c.type_count-count.ensures.within c.args.ty c.requires.known in
    let same : shape_in t c.args.ty ≡ there.0 = ap (λ (o : Option Shape). unwrap_or o void_leaf) there.1 in
    c.unwrap_or.ensures
    ∙ ap (λ (o : Option ℕ). unwrap_or o 0) (c.offset.ensures ∙ ap (λ (o : Option Shape). option_and_then (λ s. offset s c.args.index) o) there.1
    ∙ ap (λ (s : Shape). offset s c.args.index) (sym same)
    ∙ offset_is (shape_in t c.args.ty) c.args.index (laid_is t c.args.ty c.requires.laid))

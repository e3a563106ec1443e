use Rattle.std.proofs.Common.{◌+◌, ◌<◌, ℕ, Some, length, ap, sym, ◌∙◌, subst, arith}
use Rattle.std.proofs.lemmas.List.{take_all}
use Rattle.std.proofs.lemmas.Option.{slice_get-get_or}
use Rattle.type_table.specs.Layout.{all_leaves}
use Rattle.type_table.specs.declared.layout.Layout.{Layout}
use Rattle.run_names.specs.Shapes.Shapes.{shapes_in}
use Rattle.run_names.proofs.OnShapes.Counted.{leaves_next, leaves_within}
use Rattle.run_names.proofs.OnShapes.Outlines.{all_laid, is_laid}
use Rattle.run_names.proofs.types.part.leaves_of.Goals as goal

pub layout_of-count-requires-clause-known : goal.layout_of-count-requires-clause-known
layout_of-count-requires-clause-known c = subst (λ (n : ℕ). n < length c.args.types.now.types) (sym c.field-item.is) (c.requires.known c.fields.field-index c.field-item.result c.fields-test.true)

pub layout_of-count-requires-clause-laid : goal.layout_of-count-requires-clause-laid
layout_of-count-requires-clause-laid c =
    let t = c.args.types.now in
    let known = subst (λ (n : ℕ). n < length t.types) (sym c.field-item.is) (c.requires.known c.fields.field-index c.field-item.result c.fields-test.true) in
    let here = slice_get-get_or c.args.fields.now c.fields.field-index c.field-item.result c.fields-test.true ∙ ap Some (sym c.field-item.is) in
    is_laid t c.type_count-count.ensures.good c.type_count-count.ensures.within c.field-item.result known (all_laid t c.args.fields.now c.fields.field-index c.field-item.result c.requires.laid here)

pub overflow_add-count : goal.overflow_add-count
overflow_add-count c =
    let t = c.args.types.now in
    let here = slice_get-get_or c.args.fields.now c.fields.field-index c.field-item.result c.fields-test.true ∙ ap Some (sym c.field-item.is) in
    let next = leaves_next t c.args.fields.now c.fields.field-index c.field-item.result here in
    let most = leaves_within t c.args.fields.now (c.fields.field-index + 1) in
    let one = ap (λ (l : Layout). l.leaves) c.layout_of-count.ensures in
    let few = c.requires.few in
    let sofar = c.fields.invariant in
    omega (arith, next, most, one, few, sofar)

pub fields-preserved : goal.fields-preserved
fields-preserved c =
    let t = c.args.types.now in
    let here = slice_get-get_or c.args.fields.now c.fields.field-index c.field-item.result c.fields-test.true ∙ ap Some (sym c.field-item.is) in
    let next = leaves_next t c.args.fields.now c.fields.field-index c.field-item.result here in
    let one = ap (λ (l : Layout). l.leaves) c.layout_of-count.ensures in
    let sofar = c.fields.invariant in
    omega (arith, next, one, sofar)

pub returns : goal.returns
returns c = c.fields.invariant ∙ ap (λ l. all_leaves (shapes_in c.args.types.now l)) (take_all c.fields.field-index c.args.fields.now (omega arith))

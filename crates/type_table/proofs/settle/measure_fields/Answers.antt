use Rattle.std.proofs.Common.{ap, sym, ◌∙◌, get_or}
use Rattle.type_table.specs.Measures.{with_field, opaque_measure}
use Rattle.type_table.proofs.Steps.{fields_next}
use Rattle.type_table.proofs.settle.measure_fields.Goals as goal

pub loop-i-preserved : goal.loop-i-preserved
loop-i-preserved c =
    let step = fields_next c.args.packed c.args.types.now c.args.fields.now c.loop-i.i c.at.result.now c.at.ensures in
    let field = c.measure_at-field.ensures ∙ ap (λ k. get_or c.args.types.now k opaque_measure) c.number.ensures in
    c.with_field-sofar.ensures
    ∙ (λ j. with_field c.args.packed (c.loop-i.invariant j) (field j))
    ∙ sym step

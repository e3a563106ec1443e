use Rattle.std.proofs.Common.{sym, arith, length, ◌≡◌, ◌<◌, ◌∙◌, ◌-◌, ◌+◌, ap, get_or, drop}
use Rattle.std.proofs.lemmas.List.{length-map, get_or_read}
use Rattle.type_table.specs.declared.measure.Measure.{Measure}
use Rattle.type_table.specs.Measures.{measures_at, empty_struct, opaque_measure, with_field}
use Rattle.type_table.specs.Outline.{offset_from, next_offset}
use Rattle.type_table.proofs.Offsets.{offset_from-past, offset_from-more, offset_from-here}
use Rattle.type_table.proofs.settle.field_offset.Goals as goal

pub returns-then-field-fields : goal.returns-then-field-fields
returns-then-field-fields c =
    sym (offset_from-past c.args.packed empty_struct (measures_at c.args.types.now c.args.fields.now) c.args.field
    (omega (arith, length-map c.args.fields.now (λ id. get_or c.args.types.now id opaque_measure))))

pub loop-i-preserved : goal.loop-i-preserved
loop-i-preserved c =
    let types = c.args.types.now in
    let fields = c.args.fields.now in
    let i = c.loop-i.i in
    let below : c.loop-i.i < c.args.field = omega arith in
    let within : c.loop-i.i < length c.args.fields.now = omega arith in
    let field = c.measure_at.ensures ∙ ap (λ k. get_or types k opaque_measure) (c.number.ensures ∙ get_or_read fields i c.index-fields-i.result within c.index-fields-i.is 0) in
    ap (λ acc. offset_from c.args.packed acc (measures_at types (drop (i + 1) fields)) (c.args.field - (i + 1))) (c.with_field-sofar.ensures ∙ ap (with_field c.args.packed c.loop-i.sofar) field)
    ∙ sym (offset_from-more c.args.packed c.loop-i.sofar types fields i c.args.field within below)
    ∙ c.loop-i.invariant

pub returns : goal.returns
returns c =
    let types = c.args.types.now in
    let fields = c.args.fields.now in
    let end : c.loop-i.i ≡ c.args.field = omega arith in
    let within : c.args.field < length c.args.fields.now = omega arith in
    let field = c.measure_at-2.ensures ∙ ap (λ k. get_or types k opaque_measure) (c.number-2.ensures ∙ get_or_read fields c.args.field c.index-fields-field.result within c.index-fields-field.is 0) in
    c.next_offset.ensures
    ∙ ap (λ (m : Measure). next_offset c.args.packed c.loop-i.sofar.layout m.layout) field
    ∙ sym (offset_from-here c.args.packed c.loop-i.sofar types fields c.args.field within)
    ∙ ap (λ k. offset_from c.args.packed c.loop-i.sofar (measures_at types (drop k fields)) (c.args.field - k)) (sym end)
    ∙ c.loop-i.invariant

use Rattle.std.proofs.Common.{sym, ◌∙◌, ◌++◌, ◌∷◌, [], arith, ◌<◌, None, length, get_or}
use Rattle.std.proofs.lemmas.List.{length-map}
use Rattle.std.proofs.lemmas.Option.{slice_get-get_or}
use Rattle.indexmap.specs.IndexMap.{values}
use Rattle.type_table.specs.Batch.{set_from}
use Rattle.type_table.proofs.SetFrom.{length-set_from, all_measured}
use Rattle.type_table.proofs.Steps.{structs_next}
use Rattle.type_table.proofs.settle.measure_given.Goals as goal

pub loop-i-preserved : goal.loop-i-preserved
loop-i-preserved c =
    let within : c.loop-i.i < length c.args.had.now = omega arith in
    let many = length-map c.args.structs.now.entries (λ s. s.1) in
    let all = set_from (values c.args.structs.now) c.args.first c.args.given.now in
    let here = slice_get-get_or all c.loop-i.i None (omega (arith, length-set_from (values c.args.structs.now) c.args.first c.args.given.now, many, within, c.requires.as_many)) in
    let step = structs_next c.args.types.now c.args.had.now all c.loop-i.i _ (get_or all c.loop-i.i None) within here in
    c.in_ok-push.ensures.items
    ∙ (λ j. c.loop-i.invariant j ++ c.measure_one-measure.ensures j ∷ [])
    ∙ sym step

pub returns : goal.returns
returns c =
    let many = length-map c.args.structs.now.entries (λ s. s.1) in
    let all = set_from (values c.args.structs.now) c.args.first c.args.given.now in
    c.loop-i.invariant
    ∙ all_measured c.args.types.now c.args.had.now all c.loop-i.i (omega arith)
    (omega (arith, length-set_from (values c.args.structs.now) c.args.first c.args.given.now, many, c.requires.as_many))

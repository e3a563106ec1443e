use Rattle.std.proofs.Common.{sym, ◌∙◌, ◌++◌, ◌∷◌, [], arith, ◌<◌, length}
use Rattle.indexmap.specs.IndexMap.{values}
use Rattle.type_table.proofs.Steps.{structs_next}
use Rattle.type_table.proofs.settle.measure_structs.Goals as goal

pub loop-i-preserved : goal.loop-i-preserved
loop-i-preserved c =
    let within : c.loop-i.i < length c.args.had.now = omega arith in
    let step = structs_next c.args.types.now c.args.had.now (values c.args.structs.now) c.loop-i.i _ c.index.result.now within c.index.ensures in
    c.in_ok-push.ensures.items
    ∙ (λ j. c.loop-i.invariant j ++ c.measure_struct-measure.ensures j ∷ [])
    ∙ sym step

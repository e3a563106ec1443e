use Rattle.std.proofs.Common.{sym, ◌∙◌}
use Rattle.std.proofs.lemmas.Option.{slice_get-get_or}
use Rattle.linkage_rules.specs.Ids.{modules}
use Rattle.linkage_rules.proofs.Steps.{first_next}
use Rattle.linkage_rules.proofs.clash.first_clash.Goals as goal

pub loop-index-preserved : goal.loop-index-preserved
loop-index-preserved c =
    let parts = modules c.args.parts.now in
    c.loop-index.invariant
    ∙ first_next parts c.args.ids.now c.loop-index.index _ (slice_get-get_or c.args.ids.now c.loop-index.index _ c.loop-index-test.true) c.args.kind (sym c.takes_part.ensures ∙ c.if-takes_part.false)

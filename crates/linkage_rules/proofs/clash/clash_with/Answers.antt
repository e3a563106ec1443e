use Rattle.std.proofs.Common.{sym, ◌∙◌}
use Rattle.std.proofs.lemmas.Option.{slice_get-get_or}
use Rattle.linkage_rules.specs.Ids.{modules, seen}
use Rattle.linkage_rules.proofs.Steps.{clash_next}
use Rattle.linkage_rules.proofs.clash.clash_with.Goals as goal

pub loop-id-preserved : goal.loop-id-preserved
loop-id-preserved c =
    let parts = modules c.args.parts.now in
    c.loop-id.invariant
    ∙ clash_next parts c.args.ids.now c.loop-id.id-index _ (slice_get-get_or c.args.ids.now c.loop-id.id-index _ c.loop-id-test.true) c.args.kind (seen parts c.args.one) (sym c.clashes.ensures ∙ c.if-clashes.false)

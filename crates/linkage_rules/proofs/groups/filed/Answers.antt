use Rattle.std.proofs.lemmas.Option.{slice_get-get_or}
use Rattle.linkage_rules.specs.Grouped.{key_in}
use Rattle.linkage_rules.specs.Ids.{modules}
use Rattle.linkage_rules.proofs.Steps.{filed_step}
use Rattle.linkage_rules.proofs.groups.filed.Goals as goal

pub loop-id-preserved : goal.loop-id-preserved
loop-id-preserved c =
    filed_step (key_in (modules c.args.parts.now)) c.args.ids.now c.loop-id.id-index _ _ _ _
    (slice_get-get_or c.args.ids.now c.loop-id.id-index _ c.loop-id-test.true) c.loop-id.invariant c.in_ok-file.ensures c.in_ok-symbol.ensures

use Rattle.std.proofs.Common.{sym, ap₂, ◌∙◌}
use Rattle.std.proofs.lemmas.Option.{slice_get-get_or}
use Rattle.linkage_rules.specs.Ids.{modules}
use Rattle.linkage_rules.specs.Resolving.Extents.{or_greater}
use Rattle.linkage_rules.proofs.OnResolving.Joined.{common_step}
use Rattle.linkage_rules.proofs.resolving.room.greatest_common.Goals as goal

pub loop-id-preserved : goal.loop-id-preserved
loop-id-preserved c =
    c.or_greater-greatest.ensures ∙ ap₂ or_greater c.loop-id.invariant c.common_in.ensures
    ∙ sym (common_step (modules c.args.parts.now) c.args.ids.now c.loop-id.id-index _ (slice_get-get_or c.args.ids.now c.loop-id.id-index _ c.loop-id-test.true))

use Rattle.extract_rules.proofs.OnKeptNames.Naming.{none_unmarked, one_unmarked}
use Rattle.extract_rules.proofs.kept_names.named.unmarked.Goals as goal

pub loop-id-init : goal.loop-id-init
loop-id-init c = none_unmarked c.new-marks.result.items c.new-marks.ensures.items

pub loop-id-preserved : goal.loop-id-preserved
loop-id-preserved c = one_unmarked _ _ _ c.in_ok-push.ensures.items c.loop-id.invariant

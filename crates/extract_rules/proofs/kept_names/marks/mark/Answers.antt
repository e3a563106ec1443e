use Rattle.std.proofs.Common.{subst}
use Rattle.std.specs.Prelude.{slice_set, true}
use Rattle.extract_rules.specs.KeptNames.Marks.{MarksAll, in_const}
use Rattle.extract_rules.proofs.OnKeptNames.Marking.{one_marked}
use Rattle.extract_rules.proofs.kept_names.marks.mark.Goals as goal

pub returns-then-place-marks : goal.returns-then-place-marks
returns-then-place-marks c = subst (λ k. MarksAll c.args.marks.now (λ cs. in_const cs k) (slice_set c.args.marks.now c.number-place.result true)) c.number-place.ensures (one_marked c.args.marks.now c.number-place.result)

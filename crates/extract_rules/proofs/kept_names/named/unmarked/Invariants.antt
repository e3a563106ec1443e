use Rattle.extract_rules.specs.KeptNames.Marks.{AreUnmarked}
use Rattle.extract_rules.proofs.kept_names.named.unmarked.Given as goal

abbrev pub invariant-loop-id : goal.invariant-loop-id
invariant-loop-id l = AreUnmarked l._id l.marks.items

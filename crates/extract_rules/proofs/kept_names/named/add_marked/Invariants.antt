use Rattle.extract_rules.proofs.OnKeptNames.Sweeping.{Sweeping}
use Rattle.extract_rules.proofs.kept_names.named.add_marked.Given as goal

abbrev pub invariant-back : goal.invariant-back
invariant-back l = Sweeping l.arena l.initial.names.keys l.initial.marks l.next l.names.keys l.marks

abbrev pub decreases-back : goal.decreases-back
decreases-back l = l.next

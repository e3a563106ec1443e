use Rattle.linkage_rules.specs.Ids.{modules}
use Rattle.linkage_rules.specs.Resolving.Meanings.{AreAbsent}
use Rattle.linkage_rules.proofs.resolving.absent.absent_among.Given as goal

abbrev pub invariant-loop-symbol : goal.invariant-loop-symbol
invariant-loop-symbol l = AreAbsent (modules l.parts) l.absent.entries

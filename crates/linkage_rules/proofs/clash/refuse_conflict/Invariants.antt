use Rattle.std.proofs.Common.{◌≡◌, drop}
use Rattle.linkage_rules.specs.Conflicts.{first_conflict}
use Rattle.linkage_rules.specs.Grouped.{first_of}
use Rattle.linkage_rules.specs.Ids.{modules}
use Rattle.linkage_rules.proofs.clash.refuse_conflict.Given as goal

abbrev pub invariant-loop-symbol : goal.invariant-loop-symbol
invariant-loop-symbol l = first_conflict (modules l.parts) ≡ first_of (modules l.parts) (drop l.symbol-index l.symbols)

use Rattle.std.proofs.Common.{take}
use Rattle.linkage_rules.specs.Grouped.{IsFiled, key_in}
use Rattle.linkage_rules.specs.Ids.{modules}
use Rattle.linkage_rules.proofs.groups.filed.Given as goal

abbrev pub invariant-loop-id : goal.invariant-loop-id
invariant-loop-id l = IsFiled (key_in (modules l.parts)) (take l.id-index l.ids) l.groups.entries

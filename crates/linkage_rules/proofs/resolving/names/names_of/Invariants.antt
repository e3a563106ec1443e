use Rattle.std.proofs.Common.{take}
use Rattle.linkage_rules.specs.Ids.{modules}
use Rattle.linkage_rules.proofs.OnResolving.PartNames.{AreNamesOf}
use Rattle.linkage_rules.proofs.resolving.names.names_of.Given as goal

abbrev pub invariant-loop-id : goal.invariant-loop-id
invariant-loop-id l = AreNamesOf (modules l.parts) l.part (take l.id-index l.id-items) l.names.entries

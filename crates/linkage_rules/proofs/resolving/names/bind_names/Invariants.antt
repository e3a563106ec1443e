use Rattle.std.proofs.Common.{◌≡◌, length, map}
use Rattle.linkage_rules.specs.Ids.{modules}
use Rattle.linkage_rules.proofs.OnResolving.PartNames.{AreNamesUpto}
use Rattle.linkage_rules.proofs.resolving.names.bind_names.Given as goal

abbrev pub invariant-loop-part : goal.invariant-loop-part
invariant-loop-part l = record {
  count : length l.names.items ≡ l.part;
  names : AreNamesUpto (modules l.parts) (map (λ n. n.entries) l.names.items);
}

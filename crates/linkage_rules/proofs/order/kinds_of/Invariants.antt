use Rattle.std.proofs.Common.{◌≡◌, length, take, map}
use Rattle.indexmap.specs.IndexMap.{keys}
use Rattle.linkage_rules.specs.Grouped.{kind_of}
use Rattle.linkage_rules.specs.Ids.{modules}
use Rattle.linkage_rules.proofs.order.kinds_of.Given as goal

abbrev pub invariant-loop-index : goal.invariant-loop-index
invariant-loop-index l = record {
  len : length l.kinds.items ≡ l.index;
  kinds : l.kinds.items ≡ map (kind_of (modules l.parts)) (take l.index (keys l.among));
}

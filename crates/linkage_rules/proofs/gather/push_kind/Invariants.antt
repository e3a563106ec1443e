use Rattle.std.proofs.Common.{◌≡◌, ◌++◌}
use Rattle.linkage_rules.specs.Grouped.{numbered}
use Rattle.linkage_rules.proofs.gather.push_kind.Given as goal

abbrev pub invariant-loop-number : goal.invariant-loop-number
invariant-loop-number l = l.ids.items ≡ l.fn.ids.items ++ numbered l.part l.kind l.number

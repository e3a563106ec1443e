use Rattle.std.proofs.Common.{◌≡◌, drop}
use Rattle.std.specs.Prelude.{filter_map}
use Rattle.linkage_rules.specs.Ids.{modules}
use Rattle.linkage_rules.specs.Lists.{first}
use Rattle.link_names.specs.Counts.Told.{first_appended, too_long_of}
use Rattle.link_names.proofs.counts.appended.first_appended.Given as goal

-- none so far is past the limit
abbrev pub invariant-loop-symbol : goal.invariant-loop-symbol
invariant-loop-symbol l = first_appended (modules l.parts) ≡ first (filter_map (too_long_of (modules l.parts)) (drop l.symbol-index l.symbols))

use Rattle.std.proofs.Common.{◌≡◌, ◌++◌, take, filter, map}
use Rattle.indexmap.specs.IndexMap.{keys}
use Rattle.linkage_rules.specs.declared.symbol.SymbolKind.{SymbolKind}
use Rattle.linkage_rules.specs.Entries.{Symbol}
use Rattle.linkage_rules.specs.Grouped.{same_kind}
use Rattle.linkage_rules.proofs.order.push_kind.Given as goal

abbrev pub invariant-loop-index : goal.invariant-loop-index
invariant-loop-index l =
    (known : Symbol → SymbolKind) → l.kinds ≡ map known (keys l.among) → l.symbols ≡ l.fn.symbols ++ filter (λ s. same_kind l.kind (known s)) (take l.index (keys l.among))

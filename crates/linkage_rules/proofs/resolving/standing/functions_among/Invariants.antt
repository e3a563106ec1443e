use Rattle.std.proofs.Common.{◌≡◌, take, filter}
use Rattle.linkage_rules.specs.declared.symbol.SymbolKind.TheVariants as kind
use Rattle.linkage_rules.specs.Grouped.{same_kind, kind_of}
use Rattle.linkage_rules.specs.Ids.{modules}
use Rattle.linkage_rules.proofs.resolving.standing.functions_among.Given as goal

abbrev pub invariant-loop-symbol : goal.invariant-loop-symbol
invariant-loop-symbol l = l.functions ≡ filter (λ s. same_kind kind.Function (kind_of (modules l.parts) s)) (take l.symbol-index l.symbols)

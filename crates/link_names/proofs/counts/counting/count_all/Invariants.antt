use Rattle.std.proofs.Common.{◌≡◌, ◌+◌, take}
use Rattle.linkage_rules.specs.Ids.{modules}
use Rattle.linkage_rules.specs.declared.symbol.SymbolKind.TheVariants as kind
use Rattle.link_names.specs.Counts.Told.{count_of}
use Rattle.link_names.proofs.counts.counting.count_all.Given as goal

abbrev pub invariant-loop-symbol : goal.invariant-loop-symbol
invariant-loop-symbol l = record {
  variables : l.counts.variables ≡ count_of (modules l.parts) kind.Variable (take l.symbol-index l.symbols);
  functions : l.counts.functions ≡ count_of (modules l.parts) kind.Function (take l.symbol-index l.symbols);
  all : l.counts.variables + l.counts.functions + l.counts.aliases ≡ l.symbol-index;
}

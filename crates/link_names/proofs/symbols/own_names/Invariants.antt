use Rattle.std.proofs.Common.{◌≡◌, map, take}
use Rattle.linkage_rules.specs.Entries.{symbol_name}
use Rattle.link_names.proofs.symbols.own_names.Given as goal

abbrev pub invariant-loop-symbol : goal.invariant-loop-symbol
invariant-loop-symbol l = l.names.items ≡ map symbol_name (take l.symbol-index l.symbols)

use Rattle.std.proofs.Common.{◌≡◌, true, take}
use Rattle.std.specs.List.{list_all}
use Rattle.link_names.specs.Naming.{is_shared}
use Rattle.link_names.proofs.symbols.are_shared.Given as goal

abbrev pub invariant-loop-symbol : goal.invariant-loop-symbol
invariant-loop-symbol l = list_all is_shared (take l.symbol-index l.symbols) ≡ true

use Rattle.std.proofs.Common.{◌≡◌, take}
use Rattle.link_rules.specs.Rename.{shared_names}
use Rattle.link_names.specs.Naming.{HasMore}
use Rattle.link_names.proofs.symbols.give_shared.Given as goal

abbrev pub invariant-loop-symbol : goal.invariant-loop-symbol
invariant-loop-symbol l = record {
  given : HasMore l.fn.naming.given (shared_names (take l.symbol-index l.symbols)) l.naming.given;
  avoided : l.naming.avoided ≡ l.fn.naming.avoided;
}

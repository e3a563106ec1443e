use Rattle.std.proofs.Common.{◌≤◌}
use Rattle.link_names.specs.Naming.{AllTaken, taken}
use Rattle.link_names.proofs.naming.Naming.first_free.Given as goal

abbrev pub invariant-numbers : goal.invariant-numbers
invariant-numbers l = record {
  first : 1 ≤ l.number;
  before : AllTaken (taken l.self) l.base l.number;
}

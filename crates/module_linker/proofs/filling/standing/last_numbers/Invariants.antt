use Rattle.module_linker.specs.Filling.Standing.{AreLast}
use Rattle.module_linker.proofs.filling.standing.last_numbers.Given as goal

abbrev pub invariant-numbers : goal.invariant-numbers
invariant-numbers l = AreLast l.number l.origins l.last.items

use Rattle.module_linker.specs.Filling.Filling.{IsFilling}
use Rattle.module_linker.proofs.filling.filling.define_first.Given as goal

abbrev pub invariant-numbers : goal.invariant-numbers
invariant-numbers l = IsFilling l.parts l.number l.into.arena l.copiers

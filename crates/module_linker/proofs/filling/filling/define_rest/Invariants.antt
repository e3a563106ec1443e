use Rattle.module_linker.specs.Filling.Filling.{IsFilling}
use Rattle.module_linker.specs.Filling.Standing.{AreStanding}
use Rattle.module_linker.proofs.filling.filling.define_rest.Given as goal

abbrev pub invariant-numbers : goal.invariant-numbers
invariant-numbers l = record {
  filling : IsFilling l.fn.parts.items l.number l.into.arena l.copiers;
  standing : AreStanding l.number l.fn.parts.items l.origins l.standing;
}

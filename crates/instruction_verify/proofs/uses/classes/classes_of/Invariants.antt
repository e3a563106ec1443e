use Rattle.instruction_verify.specs.Uses.Keys.{AreSlots}
use Rattle.instruction_verify.proofs.uses.classes.classes_of.Given as goal

abbrev pub invariant-loop-number : goal.invariant-loop-number
invariant-loop-number l = AreSlots l.arena l.types l.classes.items l.keys.keys l.number

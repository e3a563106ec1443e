use Rattle.entry_verify.specs.Types.Classes.{AreSlots}
use Rattle.entry_verify.proofs.types.classes.classes_of.Given as goal

abbrev pub invariant-loop-number : goal.invariant-loop-number
invariant-loop-number l = AreSlots l.types l.classes.items l.keys.keys l.number

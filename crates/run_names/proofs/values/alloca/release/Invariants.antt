use Rattle.ir_memory.specs.Answer.{Keeps}
use Rattle.run_names.proofs.OnValues.Ends.{IsPartReleased}
use Rattle.run_names.proofs.values.alloca.release.Given as goal

abbrev pub invariant-allocas : goal.invariant-allocas
invariant-allocas l = record {
  part : IsPartReleased l.allocas l.initial.memory l.pointer-index l.memory;
  kept : Keeps l.initial.memory l.memory;
}

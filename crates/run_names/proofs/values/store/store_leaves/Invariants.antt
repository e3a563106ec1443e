use Rattle.std.specs.Prelude.{zip}
use Rattle.ir_memory.specs.Answer.{Keeps}
use Rattle.ir_memory.specs.Given.{IsAlignment}
use Rattle.run_names.proofs.OnValues.Stored.{IsPartStored}
use Rattle.run_names.proofs.values.store.store_leaves.Given as goal

abbrev pub invariant-slots : goal.invariant-slots
invariant-slots l = record {
  part : IsPartStored l.pointer l.align (zip l.slots l.leaves) l.initial.memory l.index l.asked l.memory;
  kept : Keeps l.initial.memory l.memory;
  alignment : IsAlignment l.asked;
}

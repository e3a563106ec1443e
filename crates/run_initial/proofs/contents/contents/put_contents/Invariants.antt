use Rattle.std.proofs.Common.{◌≡◌, drop}
use Rattle.ir_memory.specs.Answer.{Keeps}
use Rattle.module_arena.specs.View.{module_of}
use Rattle.run_names.specs.Told.{alone}
use Rattle.run_rules.specs.Opening.{with_contents}
use Rattle.run_rules.specs.Plan.{plan}
use Rattle.run_initial.proofs.OnContents.Placed.{ArePlacedFrom}
use Rattle.run_initial.proofs.contents.contents.put_contents.Given as goal

-- the contents of the other variables complete those of all, and their blocks are as they were made
abbrev pub invariant-spots : goal.invariant-spots
invariant-spots l = record {
  stored : with_contents (drop l.block (plan (alone (module_of l.names))).stores) l.memory ≡ with_contents (plan (alone (module_of l.names))).stores l.fn.memory;
  placed : ArePlacedFrom l.names l.block l.memory;
  kept : Keeps l.fn.memory l.memory;
}

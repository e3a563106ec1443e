use Rattle.std.proofs.Common.{flat_map, take}
use Rattle.extract_rules.specs.Calls.{Adds, called_in}
use Rattle.extract_rules.proofs.chosen.add_called_in_block.Given as goal

abbrev pub invariant-loop-instruction : goal.invariant-loop-instruction
invariant-loop-instruction l = Adds l.initial.names.keys (flat_map (called_in l.arena) (take l.instruction-index l.instruction-items)) l.names.keys

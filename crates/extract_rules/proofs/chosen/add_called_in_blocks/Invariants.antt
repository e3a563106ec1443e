use Rattle.std.proofs.Common.{flat_map, take}
use Rattle.extract_rules.specs.Calls.{Adds, called_in_block}
use Rattle.extract_rules.proofs.chosen.add_called_in_blocks.Given as goal

abbrev pub invariant-loop-block : goal.invariant-loop-block
invariant-loop-block l = Adds l.initial.names.keys (flat_map (called_in_block l.arena) (take l.block-index l.blocks)) l.names.keys

use Rattle.std.proofs.Common.{◌≡◌, ◌+◌, ◌*◌, ◌^◌, ◌≤◌, drop, map}
use Rattle.ir_memory.specs.Memory.{no_blocks}
use Rattle.run_names.specs.Spots.{needs}
use Rattle.run_rules.specs.Opening.{with_variables}
use Rattle.run_initial.proofs.contents.variables.add_variables.Given as goal

-- the blocks of the other variables complete those of all, and the next address is no further off than so many blocks allow
abbrev pub invariant-spots : goal.invariant-spots
invariant-spots l = record {
  made : with_variables (map needs (drop l.spot-index l.spots)) l.memory ≡ with_variables (map needs l.spots) no_blocks;
  near : l.memory.next ≤ 65536 + l.spot-index * (2 ^ 28 + 2 ^ 17);
}

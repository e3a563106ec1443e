use Rattle.std.proofs.Common.{◌≡◌, ◌++◌, map, take, drop}
use Rattle.run_rules.specs.Resolve.{phis}
use Rattle.run_decode.specs.Scopes.Scopes.{instruction_of}
use Rattle.run_decode.specs.Scopes.Ways.{GainsMoves, gets}
use Rattle.run_decode.proofs.scopes.ways.push_phis.Given as goal

-- the instructions so far are phis, and what they get is there
abbrev pub invariant-phis : goal.invariant-phis
invariant-phis l = record {
  count : l.count ≡ l.instruction-index;
  leading : phis (map (instruction_of l.scope.lists l.scope.function) l.instructions)
      ≡ map (instruction_of l.scope.lists l.scope.function) (take l.instruction-index l.instructions) ++ phis (map (instruction_of l.scope.lists l.scope.function) (drop l.instruction-index l.instructions));
  gained : GainsMoves l.fn.into.items l.into.items (gets l.scope l.from (map (instruction_of l.scope.lists l.scope.function) (take l.instruction-index l.instructions)));
}

use Rattle.std.proofs.Common.{◌≡◌, ◌+◌, map, take}
use Rattle.run_rules.specs.Resolve.{moves_to}
use Rattle.run_actions.specs.Stack.Origins.{origin_of}
use Rattle.run_decode.specs.Scopes.Ways.{GainsMoves}
use Rattle.run_decode.proofs.scopes.ways.push_moves.Given as goal

-- the moves of the leaves so far are there
abbrev pub invariant-leaves : goal.invariant-leaves
invariant-leaves l = record {
  next : l.next ≡ l.to + l.leaf-index;
  gained : GainsMoves l.fn.into.items l.into.items (moves_to l.to (map origin_of (take l.leaf-index l.leaves)));
}

use Rattle.std.proofs.Common.{map, take}
use Rattle.std.specs.Prelude.{flat_map}
use Rattle.module_arena.specs.declared.entry.Function.{Function}
use Rattle.run_initial.specs.Constants.Sound.{names_of}
use Rattle.run_rules.specs.Scope.{results_of}
use Rattle.run_decode.specs.Scopes.Places.{AreAdded}
use Rattle.run_decode.specs.Scopes.Scopes.{block_of}
use Rattle.run_decode.proofs.scopes.places.place_blocks.Given as goal

-- the results of the blocks so far are placed
abbrev pub invariant-placed : goal.invariant-placed
invariant-placed l =
    (f : Function) → AreAdded l.first (flat_map (results_of (names_of l.arena)) (map (block_of l.arena f) (take l.block-index l.blocks))) l.fn.places.items l.places.items l.next

use Rattle.std.proofs.Common.{◌≡◌, drop, map}
use Rattle.std.specs.Prelude.{flat_map}
use Rattle.module_arena.specs.declared.entry.Function.{Function}
use Rattle.run_initial.specs.Constants.Sound.{names_of}
use Rattle.run_rules.specs.Scope.{results_of}
use Rattle.run_decode.specs.Scopes.Places.{end_from}
use Rattle.run_decode.specs.Scopes.Scopes.{block_of}
use Rattle.run_acts.proofs.program.leaves.with_blocks.Given as goal

-- those so far and those of the other blocks are all
abbrev pub invariant-counted : goal.invariant-counted
invariant-counted l =
    (f : Function) → end_from l.end (flat_map (results_of (names_of l.arena)) (map (block_of l.arena f) (drop l.block-index l.blocks)))
    ≡ end_from l.before (flat_map (results_of (names_of l.arena)) (map (block_of l.arena f) l.blocks))

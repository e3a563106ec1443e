use Rattle.std.proofs.Common.{◌≡◌, drop, map}
use Rattle.std.specs.Prelude.{flat_map}
use Rattle.module_arena.specs.declared.entry.Function.{Function}
use Rattle.run_initial.specs.Constants.Sound.{names_of}
use Rattle.run_rules.specs.Scope.{result_of, results_of}
use Rattle.run_decode.specs.Scopes.Places.{end_from}
use Rattle.run_decode.specs.Scopes.Scopes.{block_of, instruction_of}
use Rattle.run_acts.proofs.program.leaves.with_block.Given as goal

-- those so far and those of the other instructions are all
abbrev pub invariant-instructions : goal.invariant-instructions
invariant-instructions l =
    (f : Function) → end_from l.end (flat_map (result_of (names_of l.arena)) (map (instruction_of l.arena f) (drop l.instruction-index l.block.instructions)))
    ≡ end_from l.before (results_of (names_of l.arena) (block_of l.arena f l.block))

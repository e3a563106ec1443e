use Rattle.std.proofs.Common.{map, take}
use Rattle.std.specs.Prelude.{flat_map}
use Rattle.module_arena.specs.declared.entry.Function.{Function}
use Rattle.run_initial.specs.Constants.Sound.{names_of}
use Rattle.run_rules.specs.Scope.{result_of}
use Rattle.run_decode.specs.Scopes.Places.{AreAdded}
use Rattle.run_decode.specs.Scopes.Scopes.{instruction_of}
use Rattle.run_decode.proofs.scopes.places.place_results.Given as goal

-- the results so far are placed
abbrev pub invariant-instructions : goal.invariant-instructions
invariant-instructions l =
    (f : Function) → AreAdded l.first (flat_map (result_of (names_of l.arena)) (map (instruction_of l.arena f) (take l.instruction-index l.block.instructions))) l.fn.places.items l.places.items l.next

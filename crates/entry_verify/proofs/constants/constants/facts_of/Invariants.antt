use Rattle.std.proofs.Common.{◌≡◌, map, take}
use Rattle.module_arena.specs.View.{constants_of, module_of}
use Rattle.entry_verify.specs.Constants.ConstantParts.{const_fact}
use Rattle.entry_verify.proofs.constants.constants.facts_of.Given as goal

abbrev pub invariant-loop-number : goal.invariant-loop-number
invariant-loop-number l = l.facts.items ≡ map (const_fact (module_of l.arena)) (take l.number (constants_of l.arena))

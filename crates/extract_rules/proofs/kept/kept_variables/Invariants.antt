use Rattle.std.proofs.Common.{◌≡◌, map, take}
use Rattle.module_arena.specs.View.{module_of}
use Rattle.extract_rules.specs.Selected.{keeps_variable}
use Rattle.extract_rules.proofs.kept.kept_variables.Given as goal

abbrev pub invariant-loop-number : goal.invariant-loop-number
invariant-loop-number l = l.flags ≡ map (keeps_variable (module_of l.arena) l.selection) (take l.number (module_of l.arena).variables)

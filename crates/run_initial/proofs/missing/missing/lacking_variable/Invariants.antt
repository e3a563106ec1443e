use Rattle.std.proofs.Common.{◌≡◌, None, map, take}
use Rattle.std.specs.List.{find}
use Rattle.module_arena.specs.Module.{Variable}
use Rattle.module_arena.specs.View.{module_of}
use Rattle.run_initial.specs.Missing.Used.{is_lacking}
use Rattle.run_initial.proofs.missing.missing.lacking_variable.Given as goal

abbrev pub invariant-variables : goal.invariant-variables
invariant-variables l = find (is_lacking (module_of l.names)) (take l.number (map (λ (x : Variable). x.name) (module_of l.names).variables)) ≡ None

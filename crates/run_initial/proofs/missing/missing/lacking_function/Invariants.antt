use Rattle.std.proofs.Common.{◌≡◌, None, map, take}
use Rattle.std.specs.List.{find}
use Rattle.module_arena.specs.Module.{Function}
use Rattle.module_arena.specs.View.{module_of}
use Rattle.run_initial.specs.Missing.Used.{is_lacking}
use Rattle.run_initial.proofs.missing.missing.lacking_function.Given as goal

abbrev pub invariant-functions : goal.invariant-functions
invariant-functions l = find (is_lacking (module_of l.names)) (take l.number (map (λ (x : Function). x.name) (module_of l.names).functions)) ≡ None

-- For `wrong_linkings_run_otherwise`: that a module does not run as parts do.
use Rattle.std.specs.Prelude.{List, [], ◌∷◌}
use Rattle.module_arena.specs.Module.{Module}
use Rattle.run_rules.specs.Same.{RunAlike}

-- for some arguments, input and bound on steps the module prints something else than these parts, side by side, or ends in another way
abbrev pub RunsOtherwise : List Module → Module → Type 0
RunsOtherwise parts m = RunAlike (m ∷ []) parts → ⊥

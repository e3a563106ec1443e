-- For `runs_end_so`: the ends of runs that have begun.
use Rattle.std.specs.Prelude.{⊤}
use Rattle.run_rules.specs.declared.end.End.{End}
use Rattle.run_rules.specs.declared.end.End.TheVariants.{Unresolved, NoMain}
use Rattle.run_rules.specs.Step.{Step, GoesOn, IsOver}

-- an end of a run: opening has two others
abbrev pub IsOfRuns : End → Type 0
IsOfRuns (Unresolved name) = ⊥
IsOfRuns NoMain = ⊥
IsOfRuns end = ⊤

-- where steps end the run
abbrev pub EndsSo : Step → Type 0
EndsSo (GoesOn s) = ⊤
EndsSo (IsOver end s) = IsOfRuns end

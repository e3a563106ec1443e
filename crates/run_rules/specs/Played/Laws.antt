-- For `runs_are_played` and `early_ends_are_played`: answers of a machine are those of its program.
use Rattle.std.specs.Prelude.{◌≡◌, [], ◌∷◌, Result, Ok, Err}
use Rattle.run_rules.specs.Clauses.{Outside}
use Rattle.run_rules.specs.Machine.{Machine, new_machine}
use Rattle.run_rules.specs.Opening.{opened}
use Rattle.run_rules.specs.Plan.{plan}
use Rattle.run_rules.specs.RunClauses.{RunAnswers}
use Rattle.run_rules.specs.State.{Core}
use Rattle.run_rules.specs.declared.end.End.{End}
use Rattle.run_rules.specs.declared.fault.RunFault.{RunFault}
use Rattle.run_rules.specs.declared.fault.RunFault.TheVariants.{Memory}
use Rattle.run_rules.specs.Played.Played.{Plays, Program}

-- what `run` of a machine that was just opened answers
abbrev pub RunsArePlayed : Type 0
RunsArePlayed = (p : Program) (c : Core) (new : Machine) (answer : Result End RunFault) (before after : Outside)
    → opened (plan (p.code ∷ [])) p.words ≡ Ok c → RunAnswers p.bound answer (new_machine p.code c) new before after → Plays p answer before after

-- what opening answers that ends the run, or that wants memory
pub record EarlyEndsArePlayed : Type 0 where
  pub ends : (p : Program) (end : End) (outside : Outside) → opened (plan (p.code ∷ [])) p.words ≡ Err end → Plays p (Ok end) outside outside
  pub wants : (p : Program) (outside : Outside) → Plays p (Err Memory) outside outside

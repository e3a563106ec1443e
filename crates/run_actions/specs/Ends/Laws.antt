-- For `runs_end_so`: that runs end so.
use Rattle.std.specs.Prelude.{ℕ}
use Rattle.run_rules.specs.Action.{Action}
use Rattle.run_rules.specs.Calls.{Callee}
use Rattle.run_rules.specs.State.{State}
use Rattle.run_rules.specs.Step.{run, step, used_up}
use Rattle.run_actions.specs.Ends.Ends.{EndsSo}

-- whatever is looked up: a step, the end behind the last step, and a run
pub record RunsEndSo : Type 0 where
  pub steps : (look : ℕ → ℕ → ℕ → Action) (table : ℕ → Callee) (s : State) → EndsSo (step look table s)
  pub halts : (table : ℕ → Callee) (s : State) → EndsSo (used_up table s)
  pub runs : (look : ℕ → ℕ → ℕ → Action) (table : ℕ → Callee) (n : ℕ) (s : State) → EndsSo (run look table n s)

-- For `two_goes_link_as_one`: parts run the same, linked in two goes or at once.
use Rattle.std.specs.Prelude.{◌≡◌, List, ◌++◌, None}
use Rattle.std.specs.List.{AllByRecursion}
use Rattle.module_arena.specs.Module.{Module}
use Rattle.module_arena.specs.Valid.{IsValid}
use Rattle.module_arena.specs.WellFormed.{IsWellFormed}
use Rattle.linkage_rules.specs.Conflicts.{first_conflict}
use Rattle.run_rules.specs.Same.{LookAlike, RunAlike}
use Rattle.rejoined_runs.specs.Regrouped.{regrouped}

-- parts that are well formed and valid, of which neither the first nor all have a conflict
pub record LinkInTwoGoes (a b : List Module) : Type 0 where
  pub formed : AllByRecursion IsWellFormed (a ++ b)
  pub valid : AllByRecursion IsValid (a ++ b)
  pub first_agree : first_conflict a ≡ None
  pub agree : first_conflict (a ++ b) ≡ None

-- each function has the same actions, each address the same callee, and a run the same blocks,
-- addresses and due calls to begin with
abbrev pub TwoGoesLookAlike : Type 0
TwoGoesLookAlike = (a b : List Module) → LinkInTwoGoes a b → LookAlike (regrouped a b) (a ++ b)

-- so the output and the end are the same, for all arguments, inputs and bounds
abbrev pub TwoGoesRunAlike : Type 0
TwoGoesRunAlike = (a b : List Module) → LinkInTwoGoes a b → RunAlike (regrouped a b) (a ++ b)

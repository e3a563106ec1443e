-- For `opening_is_typed`: when opening gives a typed state.
use Rattle.std.specs.Prelude.{◌≡◌, ℕ, ◌<◌, ◌≤◌, Bool, true, false, List, length, Some}
use Rattle.std.specs.List.{All}
use Rattle.module_arena.specs.declared.arena.TheConstants.{COUNT_LIMIT}
use Rattle.ir_memory.specs.Given.{IsAlignment}
use Rattle.run_rules.specs.Action.{Action}
use Rattle.run_rules.specs.Calls.{Callee}
use Rattle.run_rules.specs.Look.{look, table}
use Rattle.run_rules.specs.Plan.{Plan}
use Rattle.run_rules.specs.Plan as plans
use Rattle.typed_runs.specs.Actions.{Typing}
use Rattle.typed_runs.specs.States.{AreStored}
use Rattle.run_rules.specs.Due.{plain_main, main_with_arguments}
use Rattle.run_rules.specs.Places.Places.{IsFunctionOf}

-- main has the type that it is called with
abbrev pub IsTypedMain : Typing → (ℕ → ℕ → ℕ → Action) → (ℕ → Callee) → ℕ → Bool → Type 0
IsTypedMain t look table address true = IsFunctionOf look table main_with_arguments (table address)
IsTypedMain t look table address false = IsFunctionOf look table plain_main (table address)

-- alignments are alignments, leaves fit, and there is a main of its type
pub record IsTypedPlan (t : Typing) (look : ℕ → ℕ → ℕ → Action) (table : ℕ → Callee) (p : Plan) : Type 0 where
  pub variables : All (λ (v : plans.Variable). IsAlignment v.align) p.variables
  pub few : length p.variables ≤ COUNT_LIMIT
  pub fixed : t.fixed ≤ length p.variables
  pub stores : All (λ x. AreStored (length p.variables) x.1) p.stores
  pub main : (m : plans.Main) → p.main ≡ Some m → IsTypedMain t look table m.address m.takes_arguments

-- the words after the program's name, as bytes
abbrev pub AreWords : List (List ℕ) → Type 0
AreWords words = All (λ w. All (λ b. b < 256) w) words

-- For `a_valid_module_is_typed` and `runs_of_a_valid_module_are_typed`: that a valid module is a typed program with a typed plan.
use Rattle.std.specs.Prelude.{◌≡◌, ℕ, ◌<◌, List, [], ◌∷◌, Ok}
use Rattle.std.specs.List.{All}
use Rattle.module_arena.specs.Module.{Module}
use Rattle.module_arena.specs.Valid.{IsValid}
use Rattle.module_arena.specs.WellFormed.{IsWellFormed}
use Rattle.run_rules.specs.Look.{look, table}
use Rattle.run_rules.specs.Opening.{opened}
use Rattle.run_rules.specs.Plan.{plan}
use Rattle.run_rules.specs.Side.{begun}
use Rattle.run_rules.specs.State.{Core}
use Rattle.run_rules.specs.Step.{advanced}
use Rattle.typed_runs.specs.Plans.{AreWords, IsTypedPlan}
use Rattle.typed_runs.specs.States.{IsTypedStep}
use Rattle.typed_runs.specs.Look.Typings.{typing_of, IsTypedLook}

-- each action and callee of a well-formed, valid module is typed, and what opening needs of it
abbrev pub ValidIsTyped : Type 0
ValidIsTyped = (m : Module) → IsWellFormed m → IsValid m → IsTypedLook (m ∷ []) × IsTypedPlan (typing_of (m ∷ [])) (look (m ∷ [])) (table (m ∷ [])) (plan (m ∷ []))

-- so many steps after its opening a run of such a module is at a typed state, or is over
abbrev pub RunsAreTyped : Type 0
RunsAreTyped =
    (m : Module) → IsWellFormed m → IsValid m
    → (arguments : List (List ℕ)) → AreWords arguments
    → (input : List ℕ) → All (λ b. b < 256) input
    → (c : Core) → opened (plan (m ∷ [])) arguments ≡ Ok c
    → (steps : ℕ) → IsTypedStep (typing_of (m ∷ [])) (look (m ∷ [])) (table (m ∷ [])) (advanced (look (m ∷ [])) (table (m ∷ [])) steps (begun c input))

-- For `steps_stay_typed` and `opening_is_typed`: that a run of a typed program stays typed.
use Rattle.std.specs.Prelude.{◌≡◌, ℕ, ◌<◌, List, Ok}
use Rattle.std.specs.List.{All}
use Rattle.run_rules.specs.Action.{Action}
use Rattle.run_rules.specs.Calls.{Callee}
use Rattle.run_rules.specs.Opening.{opened}
use Rattle.run_rules.specs.Plan.{Plan}
use Rattle.run_rules.specs.Side.{begun}
use Rattle.run_rules.specs.State.{Core, State}
use Rattle.run_rules.specs.Step.{step}
use Rattle.typed_runs.specs.Actions.{Typing}
use Rattle.typed_runs.specs.Plans.{AreWords, IsTypedPlan}
use Rattle.typed_runs.specs.States.{IsTypedProgram, IsTypedState, IsTypedStep}

-- a step of a typed state leads to one, or ends the run
abbrev pub StepsStayTyped : Type 0
StepsStayTyped =
    (t : Typing) (look : ℕ → ℕ → ℕ → Action) (table : ℕ → Callee) → IsTypedProgram t look table → (s : State) → IsTypedState t look table s
    → IsTypedStep t look table (step look table s)

-- opening, where it does not end the run, gives a typed state
abbrev pub OpeningIsTyped : Type 0
OpeningIsTyped =
    (t : Typing) (look : ℕ → ℕ → ℕ → Action) (table : ℕ → Callee) (p : Plan) → IsTypedPlan t look table p → (arguments : List (List ℕ)) → AreWords arguments
    → (input : List ℕ) (c : Core) → All (λ b. b < 256) input → opened p arguments ≡ Ok c → IsTypedState t look table (begun c input)

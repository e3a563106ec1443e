-- For `equal_look_ups_give_equal_runs`: a run of parts, side by side.
use Rattle.std.specs.Prelude.{ℕ, List, [], Result, Ok, Err}
use Rattle.module_arena.specs.Module.{Module}
use Rattle.run_rules.specs.Action.{Action}
use Rattle.run_rules.specs.Calls.{Callee}
use Rattle.run_rules.specs.Look.{look, table}
use Rattle.run_rules.specs.Opening.{opened}
use Rattle.run_rules.specs.Plan.{Plan, plan}
use Rattle.run_rules.specs.State.{Core, State, End}
use Rattle.run_rules.specs.Step.{Outcome, outcome, run}

-- a run at its first state
abbrev pub begun : Core → List ℕ → State
begun c input = record { core = c; input = input; output = []; steps = 0 }

-- a run, where opening has not ended it
abbrev pub run_opened : (ℕ → ℕ → ℕ → Action) → (ℕ → Callee) → List ℕ → ℕ → Result Core End → Outcome
run_opened look table input bound (Ok c) = outcome (run look table bound (begun c input))
run_opened look table input bound (Err end) = record { output = []; end = end }

-- a run of what look-up, table and plan tell: no part occurs in it
abbrev pub run_of : (ℕ → ℕ → ℕ → Action) → (ℕ → Callee) → Plan → List (List ℕ) → List ℕ → ℕ → Outcome
run_of look table plan arguments input bound = run_opened look table input bound (opened plan arguments)

-- the output and the end of parts that are run side by side, each name bound by the rules of linking
abbrev pub Side : List Module → List (List ℕ) → List ℕ → ℕ → Outcome
Side parts arguments input bound = run_of (look parts) (table parts) (plan parts) arguments input bound

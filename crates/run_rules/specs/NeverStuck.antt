-- For `a_valid_module_never_gets_stuck`: that a run always finds an instruction to carry out.
use Rattle.std.specs.Prelude.{◌≡◌, ℕ, Bool, true, false, List, [], ◌∷◌, Ok}
use Rattle.module_arena.specs.Module.{Module}
use Rattle.module_arena.specs.Valid.{IsValid}
use Rattle.module_arena.specs.WellFormed.{IsWellFormed}
use Rattle.run_rules.specs.Action.{Action, Stuck}
use Rattle.run_rules.specs.Look.{look, table}
use Rattle.run_rules.specs.Opening.{opened}
use Rattle.run_rules.specs.Plan.{plan}
use Rattle.run_rules.specs.Side.{begun}
use Rattle.run_rules.specs.State.{Frame, Core, State}
use Rattle.run_rules.specs.Step.{GoesOn, advanced, entered}

-- no instruction is there
abbrev pub is_stuck : Action → Bool
is_stuck Stuck = true
is_stuck _ = false

-- no function is under way, or no instruction stands where the newest one has come to
abbrev pub is_stuck_in : (ℕ → ℕ → ℕ → Action) → List Frame → Bool
is_stuck_in look [] = true
is_stuck_in look (f ∷ fs) = is_stuck (look f.function f.block f.position)

-- in no run of the parts, at no step, once what is due is entered
abbrev pub NeverStuck : List Module → Type 0
NeverStuck parts =
    (arguments : List (List ℕ)) (input : List ℕ) (c : Core) (n : ℕ) (s t : State) → opened (plan parts) arguments ≡ Ok c
    → advanced (look parts) (table parts) n (begun c input) ≡ GoesOn s → entered (table parts) s ≡ GoesOn t
    → is_stuck_in (look parts) t.core.frames ≡ false

-- no run of a well-formed, valid module comes to a place without an instruction, so no end of it is told for want of one
abbrev pub ValidNeverSticks : Type 0
ValidNeverSticks = (m : Module) → IsWellFormed m → IsValid m → NeverStuck (m ∷ [])

-- When a program's actions are connected, and what holds of a run of such a program behind an instruction.
use Rattle.std.specs.Prelude.{ℕ, ⊤, List, [], ◌∷◌}
use Rattle.run_rules.specs.Action.{Action}
use Rattle.run_rules.specs.Calls.{Callee}
use Rattle.run_rules.specs.State.{Frame, Next, Goes, Gets, Stops}
use Rattle.run_rules.specs.Places.Places.{IsAt, GoesOnFrom, BeginsWell, IsFine}

module _ (look : ℕ → ℕ → ℕ → Action) (table : ℕ → Callee) where
  -- where an action goes on there is an instruction, and each callee begins well
  pub record IsConnected : Type 0 where
    pub actions : (function block position : ℕ) → IsAt look table function block position → GoesOnFrom (look function) block position (look function block position)
    pub callees : (address : ℕ) → BeginsWell look table (table address)

  -- some function is under way
  abbrev pub HasFrame : List Frame → Type 0
  HasFrame [] = ⊥
  HasFrame (f ∷ fs) = ⊤

  -- after an instruction
  abbrev pub IsFineNext : Next → Type 0
  IsFineNext (Goes c written) = IsFine look table c
  IsFineNext (Gets to c) = IsFine look table c
  IsFineNext (Stops end) = ⊤

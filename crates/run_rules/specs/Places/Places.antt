-- For `steps_stay_typed` and `opening_is_typed`: where a run can come to, which is the part of typing that speaks of places alone.
use Rattle.std.specs.Prelude.{◌≡◌, ℕ, ◌+◌, false, true, ⊤, List, [], ◌∷◌, map}
use Rattle.std.specs.List.{All}
use Rattle.module_arena.specs.HostRows.{host_types}
use Rattle.run_rules.specs.Action.{Edge, Signature, Action, Return, Jump, Branch, Switch, Unreachable, Stuck}
use Rattle.run_rules.specs.Calls.{Callee, Code, Host, Nothing, same_signature}
use Rattle.run_rules.specs.Due.{plain_main, main_with_arguments}
use Rattle.run_rules.specs.Look.{no_names}
use Rattle.run_rules.specs.NeverStuck.{is_stuck}
use Rattle.run_rules.specs.Resolve.{signature_in}
use Rattle.run_rules.specs.State.{Frame, Due, Constructor, Main, MainWith, Core}

-- there is an instruction at that place of a function
abbrev pub IsThere : (ℕ → ℕ → Action) → ℕ → ℕ → Type 0
IsThere here block position = is_stuck (here block position) ≡ false

-- the way leads to one
abbrev pub LeadsOn : (ℕ → ℕ → Action) → Edge → Type 0
LeadsOn here e = IsThere here e.block e.position

-- where an action goes on there is an instruction
abbrev pub GoesOnFrom : (ℕ → ℕ → Action) → ℕ → ℕ → Action → Type 0
GoesOnFrom here block position (Return value) = ⊤
GoesOnFrom here block position (Jump edge) = LeadsOn here edge
GoesOnFrom here block position (Branch condition then_edge else_edge) = LeadsOn here then_edge × LeadsOn here else_edge
GoesOnFrom here block position (Switch value otherwise cases) = LeadsOn here otherwise × All (λ x. LeadsOn here x.1) cases
GoesOnFrom here block position Unreachable = ⊤
GoesOnFrom here block position Stuck = ⊥
GoesOnFrom here block position _ = IsThere here block (position + 1)

module _ (look : ℕ → ℕ → ℕ → Action) (table : ℕ → Callee) where
  -- there is an instruction
  abbrev pub IsAt : ℕ → ℕ → ℕ → Type 0
  IsAt function block position = IsThere (look function) block position

  -- a function has a first instruction, and a host function its types
  abbrev pub BeginsWell : Callee → Type 0
  BeginsWell (Code function signature leaves) = IsAt function 0 0
  BeginsWell (Host row signatures) = signatures ≡ map (signature_in no_names) (host_types row)
  BeginsWell Nothing = ⊤

  -- each frame has come to an instruction
  abbrev pub AreAtPlaces : List Frame → Type 0
  AreAtPlaces [] = ⊤
  AreAtPlaces (f ∷ fs) = IsAt f.function f.block f.position × AreAtPlaces fs

  -- a function of that type
  abbrev pub IsFunctionOf : Signature → Callee → Type 0
  IsFunctionOf used (Code function signature leaves) = same_signature signature used ≡ true
  IsFunctionOf used (Host row signatures) = ⊥
  IsFunctionOf used Nothing = ⊥

  -- main is a function of one of its types
  abbrev pub IsTrueMain : Due → Type 0
  IsTrueMain (Constructor address) = ⊥
  IsTrueMain (Main address) = IsFunctionOf plain_main (table address)
  IsTrueMain (MainWith address number array) = IsFunctionOf main_with_arguments (table address)

  -- a constructor
  abbrev pub IsBefore : Due → Type 0
  IsBefore (Constructor address) = ⊤
  IsBefore (Main address) = ⊥
  IsBefore (MainWith address number array) = ⊥

  -- constructors, and main the last
  abbrev pub EndsInMain : List Due → Type 0
  EndsInMain [] = ⊤
  EndsInMain (d ∷ []) = IsTrueMain d
  EndsInMain (d ∷ e ∷ ds) = IsBefore d × EndsInMain (e ∷ ds)

  -- some function is under way, or due
  abbrev pub HasWork : List Frame → List Due → Type 0
  HasWork [] [] = ⊥
  HasWork [] (d ∷ ds) = ⊤
  HasWork (f ∷ fs) ds = ⊤

  -- each function under way has come to an instruction, main is due last, and there is something to do
  pub record IsFine (c : Core) : Type 0 where
    pub frames : AreAtPlaces c.frames
    pub due : EndsInMain c.due
    pub work : HasWork c.frames c.due

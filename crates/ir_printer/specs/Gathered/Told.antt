-- For `put` and `finish` of `Gathered`, and all that puts by it: what a sink was told, with what is still held before
-- it.
use Rattle.std.specs.Prelude.{◌≡◌, ◌⊎◌, ℕ, ◌≤◌, Bool, true, false, List, ◌++◌, take, length, Option}
use Rattle.std.specs.Bool.{MatchBool}
use Rattle.ir_base.specs.Outside.{Added, Rose}

-- what was put and is not written yet, and whether a write failed
pub record Pending : Type 0 where
  pub held : List ℕ
  pub failed : Bool

-- what is before a sink, with what it has taken and how many faults it had
pub record GatherState : Type 0 where
  pub pending : Pending
  pub taken : Option (List ℕ)
  pub faults : ℕ

-- what waits, what the sink has, and how many faults it told
abbrev pub state : Pending → Option (List ℕ) → ℕ → GatherState
state pending taken faults = record { pending = pending; taken = taken; faults = faults }

-- a front of the text was added
pub record AddedFront (before now : Option (List ℕ)) (text : List ℕ) : Type 0 where
  pub count : ℕ
  pub within : count ≤ length text
  pub added : Added before now (take count text)

-- from what was taken at the start on, this text was put: a front of it is taken, and the rest is held
pub record Gathers (start : Option (List ℕ)) (s : GatherState) (text : List ℕ) : Type 0 where
  pub written : List ℕ
  pub is : text ≡ written ++ s.pending.held
  pub added : Added start s.taken written

-- from what was taken at the start on, this text was put: it is taken or held; or a write failed, and a front is taken
abbrev pub Says : Option (List ℕ) → GatherState → List ℕ → Type 0
Says start s text = MatchBool s.pending.failed (AddedFront start s.taken text) (Gathers start s text)

-- these bytes were put, behind whatever was put before; a write fails only where the sink's count of faults rises
pub record Tells (before now : GatherState) (bytes : List ℕ) : Type 0 where
  pub says : (start : Option (List ℕ)) (text : List ℕ) → Says start before text → Says start now (text ++ bytes)
  pub cause : now.pending.failed ≡ true → (before.pending.failed ≡ true) ⊎ Rose before.faults now.faults
  pub fine : now.pending.failed ≡ false → (before.pending.failed ≡ false) × (now.faults ≡ before.faults)
  pub later : before.faults ≤ now.faults

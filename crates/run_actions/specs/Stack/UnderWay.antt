-- For all calls of `Stack`: the functions under way, as a clause sees them.
use Rattle.std.specs.Prelude.{ℕ, ◌+◌, ◌≤◌, ⊤, List, [], ◌∷◌, length, Option, Some, None}
use Rattle.ir_eval.specs.declared.value.Pointer.{Pointer}
use Rattle.ir_eval.specs.declared.value.Scalar.{Scalar}
use Rattle.run_rules.specs.State.{Frame}

-- the frames, the newest first, and how many leaves an edge may set at once
pub record UnderWay : Type 0 where
  pub frames : List Frame
  pub widest : ℕ

-- where no function is under way, a frame with no leaf stands for the newest
abbrev pub no_frame : Frame
no_frame = record { function = 0; block = 0; position = 0; leaves = []; allocas = []; to = 0 }

-- the newest frame
abbrev pub newest : List Frame → Frame
newest [] = no_frame
newest (f ∷ fs) = f

-- the frames below it
abbrev pub older : List Frame → List Frame
older [] = []
older (f ∷ fs) = fs

-- a function is under way
abbrev pub IsRunning : List Frame → Type 0
IsRunning [] = ⊥
IsRunning (f ∷ fs) = ⊤

-- something is done to the newest frame
abbrev pub on_newest : (Frame → Frame) → List Frame → List Frame
on_newest change [] = []
on_newest change (f ∷ fs) = change f ∷ fs

-- and nothing else
abbrev pub changed : (Frame → Frame) → UnderWay → UnderWay
changed change s = record s { frames = on_newest change s.frames }

-- a value has its leaves in a frame with so many from that place on; one with no leaf has no place
abbrev pub Fits : ℕ → ℕ → List Scalar → Type 0
Fits count to [] = ⊤
Fits count to (v ∷ vs) = to + length (v ∷ vs) ≤ count

-- one alloca more
abbrev pub with_alloca : Pointer → Frame → Frame
with_alloca p f = record f { allocas = p ∷ f.allocas }

-- the newest of these
abbrev pub first_alloca : List Pointer → Option Pointer
first_alloca [] = None
first_alloca (p ∷ ps) = Some p

-- the ones before it
abbrev pub other_allocas : List Pointer → List Pointer
other_allocas [] = []
other_allocas (p ∷ ps) = ps

-- one alloca less
abbrev pub without_alloca : Frame → Frame
without_alloca f = record f { allocas = other_allocas f.allocas }

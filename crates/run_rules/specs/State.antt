-- For `equal_look_ups_give_equal_runs`: the state of a run, and what an instruction makes of it.
use Rattle.std.specs.Prelude.{ℕ, ◌+◌, List, [], ◌∷◌, length}
use Rattle.ir_tables.specs.declared.undefined_kind.UndefinedKind.{UndefinedKind}
use Rattle.ir_eval.specs.declared.value.Pointer.{Pointer}
use Rattle.ir_eval.specs.declared.value.Scalar.{Scalar}
use Rattle.ir_memory.specs.Memory.{Blocks}
pub use Rattle.run_rules.specs.declared.end.End.{End}
pub use Rattle.run_rules.specs.declared.end.End.TheVariants.{Exit, Undefined, StepsUsed, StackLimit, MemoryLimit, Unresolved, NoMain}
use Rattle.run_rules.specs.declared.weight.TheConstants.{WEIGHT_LIMIT}

-- A function under way: its number among the function symbols, the place of its next instruction, the leaves of its
-- parameters and results one after another, the blocks of its allocas, and where its caller wants the result
pub record Frame : Type 0 where
  pub function : ℕ
  pub block : ℕ
  pub position : ℕ
  pub leaves : List Scalar
  pub allocas : List Pointer
  pub to : ℕ

-- a function that is yet to be entered, by its address: a constructor; or main, with the count of its arguments and the
-- array of them where it takes them
pub data Due : Type 0 where
  Constructor : (address : ℕ) → Due
  Main : (address : ℕ) → Due
  MainWith : (address count : ℕ) → (array : Pointer) → Due

-- what an instruction sees of a state: the frames, the newest first; the entries due, main the last; memory
pub record Core : Type 0 where
  pub frames : List Frame
  pub due : List Due
  pub memory : Blocks

-- a state: what instructions see, the input left, the output and the steps so far
pub record State : Type 0 where
  pub core : Core
  pub input : List ℕ
  pub output : List ℕ
  pub steps : ℕ

-- what an instruction does: it goes on and writes these bytes; it wants a byte of the input in that place of the newest
-- frame; or it ends the program
pub data Next : Type 0 where
  Goes : (core : Core) → (output : List ℕ) → Next
  Gets : (to : ℕ) → (core : Core) → Next
  Stops : (end : End) → Next

-- the leaves of its parameters and results, and one more
abbrev pub weight : Frame → ℕ
weight f = 1 + length f.leaves

-- how much all frames may weigh
abbrev pub weight_limit : ℕ
weight_limit = WEIGHT_LIMIT

-- what all frames weigh
abbrev pub weights : List Frame → ℕ
weights [] = 0
weights (f ∷ fs) = weight f + weights fs

-- one frame more
abbrev pub on_top : Frame → Core → Core
on_top f c = record c { frames = f ∷ c.frames }

-- goes on, and writes nothing
abbrev pub goes : Frame → Core → Next
goes f c = Goes (on_top f c) []

-- the program is undefined
abbrev pub fails : UndefinedKind → Next
fails kind = Stops (Undefined kind)

-- Says how the code of `step` and `run` of `Machine` reads: what holds of a run that is not over, and how a clause sees it.
use Rattle.std.specs.Prelude.{◌≡◌, ℕ, ◌+◌, ◌*◌, ◌<◌, ◌≤◌, ⊤, Bool, List, [], ◌∷◌, length, Option, Some, None, if◌then◌else◌}
use Rattle.module_arena.specs.View.{module_of}
use Rattle.ir_memory.specs.declared.leaf.Leaf.TheVariants as leaf
use Rattle.ir_memory.specs.Memory.{Blocks, no_blocks, reach}
use Rattle.run_names.specs.Told.{alone}
use Rattle.run_rules.specs.Clauses.{told}
use Rattle.run_rules.specs.State.{Due, Core, State}
use Rattle.run_rules.specs.Step.{GoesOn, entered, next_of}
use Rattle.run_rules.specs.Wants.{may_want_memory}
use Rattle.run_acts.specs.Program.Loaded.{Loaded}
use Rattle.run_actions.specs.Stack.UnderWay.{UnderWay, IsRunning}
use Rattle.run_rules.specs.Traffic.Input.{Waiting}
use Rattle.run_rules.specs.declared.traffic.output.TheConstants.{OUTPUT_PIECE}
use Rattle.run_acts.specs.declared.next.Next.{Next}
use Rattle.run_acts.specs.declared.next.Next.TheVariants.{Goes, Gets, Stops}
use Rattle.run_acts.specs.declared.next.Stop.{Stop}
use Rattle.run_acts.specs.Made.{AreReady}
use Rattle.run_acts.specs.Said.{end_of}
use Rattle.run_acts.specs.Said as said
use Rattle.run_acts.specs.Acting.{look_in, table_in, typing_in}
use Rattle.ir_run.specs.Seen.{Going}
use Rattle.ir_run.specs.declared.live.Turn.{Turn}
use Rattle.ir_run.specs.declared.live.Turn.TheVariants.{Over, Came}
use Rattle.typed_runs.specs.Look.Typings.{IsTypedLook}
use Rattle.typed_runs.specs.States.{AreTaken, IsTypedCore, opened_reach}

-- what instructions see, and the bytes that the last one writes
pub record Living : Type 0 where
  pub program : Loaded
  pub stack : UnderWay
  pub memory : Blocks
  pub due : List Due
  pub written : List ℕ

-- the same in the words of a run
abbrev pub core_of_living : Living → Core
core_of_living l = record { frames = l.stack.frames; due = l.due; memory = l.memory }

-- what instructions see, where the last one wrote nothing
abbrev pub living_of : Loaded → UnderWay → List Due → Blocks → Living
living_of p s due m = record { program = p; stack = s; memory = m; due = due; written = [] }

-- ---- what holds

-- of a run that is not over, after so many steps: each action and each address of the program is typed; so is what instructions see;
-- the next address is so far off as the steps allow; and the body of each function under way is there, none of whose edges is too wide
pub record IsLive (steps : ℕ) (l : Living) : Type 0 where
  pub typed : IsTypedLook (alone (module_of l.program.lists))
  pub core : IsTypedCore (typing_in l.program.lists) (look_in l.program.lists) (table_in l.program.lists) (core_of_living l)
  pub next : l.memory.next ≤ opened_reach + steps * reach
  pub ready : AreReady l.program l.stack

-- and fewer bytes are held back than are written at once
pub record IsOnItsWay (steps : ℕ) (l : Living) (held : List ℕ) : Type 0 where
  pub live : IsLive steps l
  pub short : length held < OUTPUT_PIECE

-- some function is under way
abbrev pub HasFrames : Living → Type 0
HasFrames l = IsRunning l.stack.frames

-- ---- what is done

-- what was due is entered, and a function is under way, if one was or was due
pub record IsEntered (old new : Living) : Type 0 where
  pub lists : new.program.lists ≡ old.program.lists
  pub enters : (s : State) → s.core ≡ core_of_living old → entered (table_in old.program.lists) s ≡ GoesOn (record s { core = core_of_living new })

-- the run is over by that, and no step is made
pub record EndsThere (stop : Stop) (old new : Living) : Type 0 where
  pub lists : new.program.lists ≡ old.program.lists
  pub over : (s : State) → s.core ≡ core_of_living old → told (entered (table_in old.program.lists) s) ≡ Some (end_of stop, s.output, s.steps)

-- either, by the answer
abbrev pub Enters : Option Stop → Living → Living → Type 0
Enters None old new = IsEntered old new
Enters (Some stop) old new = EndsThere stop old new

-- the instruction of the newest function does this
pub record Acts (next : Next) (old new : Living) : Type 0 where
  pub lists : new.program.lists ≡ old.program.lists
  pub comes : next_of (look_in old.program.lists) (table_in old.program.lists) (core_of_living old) ≡ said.next_of next (core_of_living new) new.written

-- what was due is entered, and the instruction of the newest function then does this
pub record Comes (next : Next) (old new : Living) : Type 0 where
  pub lists : new.program.lists ≡ old.program.lists
  pub there : Core
  pub enters : (s : State) → s.core ≡ core_of_living old → entered (table_in old.program.lists) s ≡ GoesOn (record s { core = there })
  pub comes : next_of (look_in old.program.lists) (table_in old.program.lists) there ≡ said.next_of next (core_of_living new) new.written

-- a step, but for the bytes on their way
abbrev pub Turns : Turn → Living → Living → Type 0
Turns (Over stop) old new = EndsThere stop old new
Turns (Came next) old new = Comes next old new

-- ---- what stays

-- the newest frame has an i32 at that place
abbrev pub TakesNumber : ℕ → Living → Type 0
TakesNumber to l = AreTaken (typing_in l.program.lists) (look_in l.program.lists) (table_in l.program.lists) to (leaf.Int 32 ∷ []) l.stack.frames

-- where a function is under way then, all holds of the run still
abbrev pub StaysEntered : ℕ → Option Stop → Living → Type 0
StaysEntered steps None l = IsLive steps l × HasFrames l
StaysEntered steps (Some stop) l = ⊤

-- where the run goes on behind an instruction, all holds of it that held before, with a step more
abbrev pub StaysLive : ℕ → Next → Living → Type 0
StaysLive steps Goes l = IsLive (steps + 1) l
StaysLive steps (Gets to) l = IsLive (steps + 1) l × HasFrames l × TakesNumber to l
StaysLive steps (Stops stop) l = ⊤

-- the same behind a step, but for the bytes
abbrev pub StaysIn : ℕ → Turn → Living → Type 0
StaysIn steps (Over stop) l = ⊤
StaysIn steps (Came next) l = StaysLive steps next l

-- the next instruction may want memory
abbrev pub may_want_in : Living → Bool
may_want_in l = may_want_memory (look_in l.program.lists) l.stack.frames

-- ---- how a clause sees it

-- a run that is over: no function is under way, and nothing is due
abbrev pub idle : Core
idle = record { frames = []; due = []; memory = no_blocks }

-- a run on its way, or over
abbrev pub going : Living → Waiting → List ℕ → ℕ → Bool → Going
going l waiting unwritten steps is_over = record {
  lists = l.program.lists;
  core = if is_over then idle else core_of_living l;
  steps = steps;
  unused = waiting.unused;
  closed = waiting.closed;
  unwritten = unwritten;
}

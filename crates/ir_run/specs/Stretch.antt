-- Says how the code of `run` of `Machine` reads: a stretch of instructions that neither call nor return.
use Rattle.std.specs.Prelude.{◌≡◌, ℕ, zero, suc, ◌+◌, ◌<◌, ◌≤◌, ⊤, true, List, []}
use Rattle.ir_memory.specs.Memory.{Blocks}
use Rattle.run_rules.specs.Action.{Action}
use Rattle.run_rules.specs.Calls.{Callee}
use Rattle.run_rules.specs.State.{Due, Core}
use Rattle.run_rules.specs.Step.{next_of}
use Rattle.run_rules.specs.Wants.{may_want_memory}
use Rattle.run_actions.specs.declared.loops.stepping.TheConstants.{STEP_LIMIT}
use Rattle.run_acts.specs.Program.Loaded.{Loaded}
use Rattle.run_actions.specs.Stack.UnderWay.{UnderWay, IsRunning}
use Rattle.run_acts.specs.declared.next.Next.TheVariants as answer
use Rattle.run_acts.specs.Said as said
use Rattle.run_acts.specs.Acting.{IsOuter, look_in, table_in}
use Rattle.ir_run.specs.declared.stretch.Stretch.{Stretch}
use Rattle.ir_run.specs.declared.stretch.StretchEnd.{StretchEnd}
use Rattle.ir_run.specs.declared.stretch.StretchEnd.TheVariants.{Waits, Stops, Wants}
use Rattle.ir_run.specs.Living.{IsLive, Living, core_of_living, living_of}

-- a function is under way, and the bound on steps allows so many instructions
abbrev pub MayWalk : Loaded → UnderWay → Blocks → ℕ → Type 0
MayWalk p s m most = (steps : ℕ) × (due : List Due) × IsLive steps (living_of p s due m) × IsRunning s.frames × (steps + most ≤ STEP_LIMIT)

-- so many instructions were carried out, each of a function under way: each goes on, and writes nothing
abbrev pub Walked : (ℕ → ℕ → ℕ → Action) → (ℕ → Callee) → ℕ → Core → Core → Type 0
Walked look table zero old new = new ≡ old
Walked look table (suc n) old new = (mid : Core) × Walked look table n old mid × IsRunning mid.frames × (next_of look table mid ≡ said.next_of answer.Goes new [])

-- nothing more is done; or the next instruction ends the run; or it may want memory
abbrev pub ComesThen : (ℕ → ℕ → ℕ → Action) → (ℕ → Callee) → StretchEnd → Core → Core → Type 0
ComesThen look table Waits mid new = new ≡ mid
ComesThen look table (Stops stop) mid new = IsRunning mid.frames × (next_of look table mid ≡ said.next_of (answer.Stops stop) new [])
ComesThen look table Wants mid new = IsRunning mid.frames × (may_want_memory look mid.frames ≡ true)

-- a stretch, by its answer
pub record Walks (s : Stretch) (old new : Living) : Type 0 where
  pub lists : new.program.lists ≡ old.program.lists
  pub mid : Core
  pub walked : Walked (look_in old.program.lists) (table_in old.program.lists) s.count (core_of_living old) mid
  pub comes : ComesThen (look_in old.program.lists) (table_in old.program.lists) s.end mid (core_of_living new)

-- where the run goes on, all holds of it that held before
abbrev pub StaysAt : ℕ → StretchEnd → Living → Type 0
StaysAt steps Waits l = IsLive steps l
StaysAt steps (Stops stop) l = ⊤
StaysAt steps Wants l = ⊤

-- the same behind a stretch
abbrev pub StaysBehind : ℕ → Stretch → Living → Type 0
StaysBehind steps s l = StaysAt (steps + s.count) s.end l

-- where fewer instructions were carried out than were asked for, the next calls or returns; one more was asked for, where one ended the
-- run, or wanted memory
abbrev pub LeavesOff : ℕ → ℕ → StretchEnd → Loaded → UnderWay → Type 0
LeavesOff most count Waits p s = count < most → IsRunning s.frames → IsOuter p s
LeavesOff most count (Stops stop) p s = count < most
LeavesOff most count Wants p s = count < most

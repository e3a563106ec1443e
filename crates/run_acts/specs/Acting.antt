-- For `act_inside`, `calls_or_returns` and `call_or_return`: what is asked of frames, memory and a program so that an instruction can be carried out, and what is said of it.
use Rattle.std.specs.Prelude.{◌≡◌, ℕ, ◌+◌, ◌≤◌, ◌<◌, ◌^◌, Bool, true, false, List, [], map, length, Option, Some, None, Result, Ok, Err}
use Rattle.std.specs.Result.{IsErr}
use Rattle.ir_memory.specs.declared.fault.MemoryFault.{MemoryFault}
use Rattle.ir_memory.specs.declared.fault.MemoryFault.TheVariants as faults
use Rattle.ir_memory.specs.Memory.{Blocks, HasFreeAddresses}
use Rattle.ir_tables.specs.declared.undefined_kind.UndefinedKind.{UndefinedKind}
use Rattle.module_arena.specs.Lists.{Lists}
use Rattle.module_arena.specs.View.{module_of}
use Rattle.run_names.specs.Told.{alone}
use Rattle.run_rules.specs.Action as actions
use Rattle.run_rules.specs.Calls.{Callee}
use Rattle.run_rules.specs.Look.{look, table}
use Rattle.run_rules.specs.State.{Due, Frame}
use Rattle.run_rules.specs.Step.{instruction}
use Rattle.run_rules.specs.Wants.{may_want_memory}
use Rattle.run_actions.specs.Stack.UnderWay.{UnderWay, IsRunning, newest}
use Rattle.run_actions.specs.Carried.{acted, core_of}
use Rattle.run_decode.specs.declared.flat.action.Action.{Action}
use Rattle.run_decode.specs.Flat.Flat.{action_of, IsWithin}
use Rattle.run_decode.specs.Body.Bodies.{Decoded}
use Rattle.run_acts.specs.Program.Loaded.{Loaded, IsBody, IsReady}
use Rattle.typed_runs.specs.Look.Typings.{IsTypedLook, typing_of}
use Rattle.typed_runs.specs.Actions.{Typing}
use Rattle.typed_runs.specs.States.{AreTypedFrames, IsTypedMemory}
use Rattle.run_acts.specs.declared.next.Next.{Next}
use Rattle.run_acts.specs.declared.next.Next.TheVariants.{Goes, Gets, Stops}
use Rattle.run_acts.specs.declared.next.Stop.TheVariants as stops
use Rattle.run_acts.specs.Made.{AreReady}
use Rattle.run_acts.specs.Said.{next_of}

-- ---- a module that is run alone

-- its actions, its addresses, and its kinds of leaves
abbrev pub look_in : Lists → ℕ → ℕ → ℕ → actions.Action
look_in a = look (alone (module_of a))

-- what its addresses have
abbrev pub table_in : Lists → ℕ → Callee
table_in a = table (alone (module_of a))

-- the kinds of the leaves in its frames
abbrev pub typing_in : Lists → Typing
typing_in a = typing_of (alone (module_of a))

-- each frame has leaves of its kinds and stands at an instruction
abbrev pub AreFrames : Lists → ℕ → UnderWay → Type 0
AreFrames a count s = AreTypedFrames (typing_in a) (look_in a) (table_in a) count s.frames

-- ---- what is asked

-- some function is under way, each is typed and decoded, and so is all that it comes to
pub record MayActHere (p : Loaded) (s : UnderWay) (m : Blocks) : Type 0 where
  pub running : IsRunning s.frames
  pub typed : IsTypedLook (alone (module_of p.lists))
  pub frames : AreFrames p.lists (length m.list) s
  pub ready : AreReady p s
  pub fixed : (typing_of (alone (module_of p.lists))).fixed ≤ length m.list
  pub memory : IsTypedMemory m
  pub next : HasFreeAddresses m

-- this is the body of the newest function
pub record MayActBy (p : Loaded) (body : Decoded) (s : UnderWay) (m : Blocks) : Type 0 where
  pub here : MayActHere p s m
  pub ready : IsReady p (newest s.frames).function body
  pub is_body : IsBody p (newest s.frames).function body

-- so the action of the body of the newest function that stands where this has come to
pub record MayActIn (p : Loaded) (body : Decoded) (action : Action) (s : UnderWay) (m : Blocks) : Type 0 where
  pub here : MayActHere p s m
  pub ready : IsReady p (newest s.frames).function body
  pub is_body : IsBody p (newest s.frames).function body
  pub narrow : body.widest ≤ s.widest
  pub means : action_of body.pools p.lists action ≡ look_in p.lists (newest s.frames).function (newest s.frames).block (newest s.frames).position
  pub within : IsWithin body.pools action
  pub room : (newest s.frames).position + 1 < 2 ^ 32

-- ---- what is said

-- what the definition says of an action of the newest function, as the answer says it
abbrev pub CameTo : Loaded → actions.Action → List Due → Next → UnderWay → UnderWay → Blocks → Blocks → List ℕ → Type 0
CameTo p action due next old new m n written = acted (table_in p.lists) action old.frames due m ≡ next_of next (core_of new.frames due n) written

-- the same of an action that writes nothing, whatever addresses have and whatever is due
abbrev pub ComesTo : actions.Action → Next → UnderWay → UnderWay → Blocks → Blocks → Type 0
ComesTo action next old new m n = (table : ℕ → Callee) (due : List Due) → acted table action old.frames due m ≡ next_of next (core_of new.frames due n) []

-- the functions under way are the same, and an edge may set as many leaves at once
pub record FunctionsStay (old new : UnderWay) : Type 0 where
  pub functions : map (λ (f : Frame). f.function) new.frames ≡ map (λ (f : Frame). f.function) old.frames
  pub width : new.widest ≡ old.widest

-- what the definition says of the instruction that is due, as the answer says it
abbrev pub ActsFor : Loaded → List Due → Next → UnderWay → UnderWay → Blocks → Blocks → List ℕ → Type 0
ActsFor p due next old new m n written =
    instruction (look_in p.lists) (table_in p.lists) old.frames due m ≡ next_of next (core_of new.frames due n) written

-- it calls or returns
abbrev pub is_outer : actions.Action → Bool
is_outer (actions.Call to signature callee shapes arguments) = true
is_outer (actions.Return value) = true
is_outer _ = false

-- whether the instruction that is due does so
abbrev pub is_outer_here : Loaded → UnderWay → Bool
is_outer_here p s = is_outer (look_in p.lists (newest s.frames).function (newest s.frames).block (newest s.frames).position)

-- the instruction that is due calls or returns
abbrev pub IsOuter : Loaded → UnderWay → Type 0
IsOuter p s = is_outer_here p s ≡ true

-- what comes of an action that neither calls nor returns: it goes on or stops the run, and writes nothing; or it does, and nothing is done
abbrev pub ComesInside : actions.Action → Option Next → UnderWay → UnderWay → Blocks → Blocks → Type 0
ComesInside action None old new m n = (new ≡ old) × (n ≡ m) × (is_outer action ≡ true)
ComesInside action (Some next) old new m n = ComesTo action next old new m n × ((to : ℕ) → ¬ (next ≡ Gets to))

-- the same of the instruction that is due
abbrev pub ActsInside : Loaded → Option Next → UnderWay → UnderWay → Blocks → Blocks → Type 0
ActsInside p None old new m n = (new ≡ old) × (n ≡ m) × IsOuter p old
ActsInside p (Some next) old new m n = ((due : List Due) → ActsFor p due next old new m n []) × ((to : ℕ) → ¬ (next ≡ Gets to))

-- the instruction that is due may want memory
abbrev pub WantsHere : Loaded → UnderWay → Type 0
WantsHere p s = may_want_memory (look_in p.lists) s.frames ≡ true

-- it goes on, or is undefined
abbrev pub AnswersWith : Result (Unit {0}) UndefinedKind → Next → Type 0
AnswersWith (Ok done) next = next ≡ Goes
AnswersWith (Err kind) next = next ≡ Stops (stops.Undefined kind)

-- it goes on, is undefined, passes the limit on live bytes, or wants memory
abbrev pub AnswersMemory : {E : Type 0} → Result (Unit {0}) MemoryFault → Result (Option Next) E → Type 0
AnswersMemory (Ok done) next = next ≡ Ok (Some Goes)
AnswersMemory (Err (faults.Undefined kind)) next = next ≡ Ok (Some (Stops (stops.Undefined kind)))
AnswersMemory (Err faults.MemoryLimit) next = next ≡ Ok (Some (Stops stops.MemoryLimit))
AnswersMemory (Err faults.Memory) next = IsErr next

-- For `steps_stay_typed` and `opening_is_typed`: when a program is typed, and what holds of each state of its runs.
use Rattle.std.specs.Prelude.{◌≡◌, ℕ, ◌+◌, ◌*◌, ◌^◌, ◌<◌, ◌≤◌, false, ⊤, IsTrue, List, [], ◌∷◌, ◌++◌, map, length}
use Rattle.std.specs.List.{All, AllZip}
use Rattle.ir_eval.specs.declared.value.Scalar.{Scalar}
use Rattle.ir_memory.specs.declared.leaf.Leaf.{Leaf}
use Rattle.ir_memory.specs.Given.{IsBlock}
use Rattle.ir_memory.specs.Kept.{IsPlaced, AreKnown}
use Rattle.ir_memory.specs.Memory.{Blocks, live_bytes, byte_limit, first_address, reach}
use Rattle.ir_tables.specs.IntrinsicName.{has_width}
use Rattle.ir_eval.specs.Value.{IsWidth}
use Rattle.module_arena.specs.declared.host.HostRow.{HostRow}
use Rattle.module_arena.specs.declared.host.HostRow.TheVariants.{Integer}
use Rattle.module_arena.specs.HostRows.{host_types}
use Rattle.run_rules.specs.Action.{Action}
use Rattle.run_rules.specs.Calls.{Callee, Code, Host, Nothing}
use Rattle.run_rules.specs.Leaves.{Slot}
use Rattle.run_rules.specs.Look.{no_names}
use Rattle.run_rules.specs.Resolve.{signature_in}
use Rattle.run_rules.specs.State.{Frame, Due, Constructor, Main, MainWith, Core, State, weights, weight_limit}
use Rattle.run_rules.specs.Step.{Step, GoesOn, IsOver}
use Rattle.run_rules.specs.Places.Places.{IsTrueMain, IsBefore, HasWork}
use Rattle.typed_runs.specs.Actions.{Typing, IsPlace, IsTypedAction}
use Rattle.typed_runs.specs.Kinds.{IsOf, AreAt, kinds_of, kinds_of_all}

-- as far as the next address may be once a run is opened
abbrev pub opened_reach : ℕ
opened_reach = 2 ^ 59

-- memory: blocks in order below the next address, however far that is, no more bytes live than may, and each block known
pub record IsTypedMemory (m : Blocks) : Type 0 where
  pub placed : IsPlaced first_address m.list m.next
  pub limit : live_bytes m.list ≤ byte_limit
  pub known : AreKnown (length m.list) m.list

-- a row of the host table: an intrinsic over integers is there at its widths alone
abbrev pub IsRow : HostRow → Type 0
IsRow (Integer which width) = IsWidth width × IsTrue (has_width which width)
IsRow _ = ⊤

-- leaves, each of the kind of its slot
abbrev pub AreStored : ℕ → List (Slot × Scalar) → Type 0
AreStored count [] = ⊤
AreStored count (x ∷ xs) = IsOf count x.0.leaf x.1 × AreStored count xs

-- memory after something was done to it: no block is lost, and the next address is not far
pub record IsLater (m n : Blocks) : Type 0 where
  pub blocks : length m.list ≤ length n.list
  pub next : n.next ≤ m.next + reach

module _ (t : Typing) (look : ℕ → ℕ → ℕ → Action) (table : ℕ → Callee) where
  -- a frame has leaves of the function's kinds, the parameters in front, and a first instruction. A host function has its types
  abbrev pub IsTypedCallee : Callee → Type 0
  IsTypedCallee (Code function signature leaves) =
      (signature.variadic ≡ false) × (length (t.kinds function) ≡ leaves) × (t.gives function ≡ kinds_of signature.returns)
      × ((others : List Leaf) × (t.kinds function ≡ kinds_of_all signature.parameters ++ others)) × IsPlace t look function 0 0
  IsTypedCallee (Host row signatures) = (signatures ≡ map (signature_in no_names) (host_types row)) × IsRow row
  IsTypedCallee Nothing = ⊤

  -- each action is typed, and each callee
  pub record IsTypedProgram : Type 0 where
    pub actions : (function block position : ℕ) → IsPlace t look function block position → IsTypedAction t look function block position (look function block position)
    pub callees : (address : ℕ) → IsTypedCallee (table address)

  -- each leaf is of the kind of its place, each alloca's block was made, and there is an instruction
  pub record IsTypedFrame (count : ℕ) (f : Frame) : Type 0 where
    pub leaves : AllZip (IsOf count) (t.kinds f.function) f.leaves
    pub allocas : All (λ p. IsBlock count p.block) f.allocas
    pub place : IsPlace t look f.function f.block f.position

  -- leaves of these kinds can be handed to the newest of these
  abbrev pub AreTaken : ℕ → List Leaf → List Frame → Type 0
  AreTaken to kinds [] = ⊤
  AreTaken to kinds (f ∷ fs) = AreAt (t.kinds f.function) to kinds

  -- each frame is typed, and what it gives can be handed to the one below
  abbrev pub AreTypedFrames : ℕ → List Frame → Type 0
  AreTypedFrames count [] = ⊤
  AreTypedFrames count (f ∷ fs) = IsTypedFrame count f × AreTaken f.to (t.gives f.function) fs × AreTypedFrames count fs

  -- the arguments of main
  abbrev pub IsTypedDue : ℕ → Due → Type 0
  IsTypedDue count (Constructor address) = ⊤
  IsTypedDue count (Main address) = ⊤
  IsTypedDue count (MainWith address number array) = (number < 2 ^ 32) × IsBlock count array.block

  -- constructors, and main the last
  abbrev pub AreTypedDue : ℕ → List Due → Type 0
  AreTypedDue count [] = ⊤
  AreTypedDue count (d ∷ []) = IsTypedDue count d × IsTrueMain look table d
  AreTypedDue count (d ∷ e ∷ ds) = IsBefore look table d × AreTypedDue count (e ∷ ds)

  -- what an instruction sees
  pub record IsTypedCore (c : Core) : Type 0 where
    pub frames : AreTypedFrames (length c.memory.list) c.frames
    pub weight : weights c.frames ≤ weight_limit
    pub due : AreTypedDue (length c.memory.list) c.due
    pub under_way : HasWork look table c.frames c.due
    pub memory : IsTypedMemory c.memory
    pub fixed : t.fixed ≤ length c.memory.list

  -- a state: the input is bytes, and the next address is so far off as its steps allow
  pub record IsTypedState (s : State) : Type 0 where
    pub core : IsTypedCore s.core
    pub input : All (λ b. b < 256) s.input
    pub output : All (λ b. b < 256) s.output
    pub next : s.core.memory.next ≤ opened_reach + s.steps * reach

  -- a step leads to a typed state, or the run is over
  abbrev pub IsTypedStep : Step → Type 0
  IsTypedStep (GoesOn s) = IsTypedState s
  IsTypedStep (IsOver end s) = ⊤

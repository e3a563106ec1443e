-- For `compute`, `compare`, `convert`, `select`, `freeze`, `gather` and the ways (`jump`, `branch`, `switch`, `unreachable`): what the
-- definition says of an action of the newest frame, whatever addresses have, whatever is due and whatever memory holds.
use Rattle.std.specs.Prelude.{◌≡◌, ℕ, List, [], Result, Ok, Err}
use Rattle.ir_tables.specs.declared.undefined_kind.UndefinedKind.{UndefinedKind}
use Rattle.ir_memory.specs.Memory.{Blocks}
use Rattle.run_rules.specs.Act.{act}
use Rattle.run_rules.specs.Action.{Action}
use Rattle.run_rules.specs.Calls.{Callee}
use Rattle.run_rules.specs.State.{Frame, Due, Core, Next, Goes, fails}
use Rattle.run_actions.specs.Stack.UnderWay.{UnderWay, newest, older}

-- what an instruction sees beside the frame that it stands in
abbrev pub core_of : List Frame → List Due → Blocks → Core
core_of frames due m = record { frames = frames; due = due; memory = m }

-- what the definition says of the action
abbrev pub acted : (ℕ → Callee) → Action → List Frame → List Due → Blocks → Next
acted table action frames due m = act table action (newest frames) (core_of (older frames) due m)

-- the run goes on with the frames that there are now, and nothing is written
pub record IsCarriedOut (action : Action) (old new : UnderWay) : Type 0 where
  pub goes : (table : ℕ → Callee) (due : List Due) (m : Blocks) → acted table action old.frames due m ≡ Goes (core_of new.frames due m) []
  pub width : new.widest ≡ old.widest

-- the program is undefined, and the frames are as they were
pub record IsUndefined (action : Action) (kind : UndefinedKind) (old new : UnderWay) : Type 0 where
  pub fails : (table : ℕ → Callee) (due : List Due) (m : Blocks) → acted table action old.frames due m ≡ fails kind
  pub same : new ≡ old

-- either, by the answer
abbrev pub Acts : Action → Result (Unit {0}) UndefinedKind → UnderWay → UnderWay → Type 0
Acts action (Ok done) old new = IsCarriedOut action old new
Acts action (Err kind) old new = IsUndefined action kind old new

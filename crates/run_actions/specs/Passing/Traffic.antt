-- For `flush`, `put`, `finish` and `get`: what happens to the bytes of a step.
use Rattle.std.specs.Prelude.{◌≡◌, ◌⊎◌, ℕ, ◌^◌, ◌<◌, List, [], ◌∷◌, ◌++◌, length, Option, Some, None, Result, Ok, Err}
use Rattle.ir_base.specs.Outside.{Added, Rose}
use Rattle.ir_eval.specs.declared.value.Scalar.TheVariants.{Int}
use Rattle.run_rules.specs.Clauses.{Outside}
use Rattle.run_rules.specs.Frame.{with_value}
use Rattle.run_rules.specs.declared.fault.RunFault.{RunFault}
use Rattle.run_rules.specs.declared.fault.RunFault.TheVariants.{ReadFault, WriteFault, Memory}
use Rattle.run_rules.specs.declared.end.End.{End}
use Rattle.run_rules.specs.declared.host.TheConstants.{END_OF_INPUT}
use Rattle.run_actions.specs.Stack.UnderWay.{UnderWay, changed, newest}
use Rattle.run_rules.specs.Traffic.Input.{Takes, Waiting, IsWaiting}
use Rattle.run_rules.specs.Traffic.Output as output
use Rattle.run_rules.specs.declared.traffic.output.TheConstants.{OUTPUT_PIECE}

-- a write failed: a front of what was due is written, the count rose, and the same is held as before
pub record CouldNotPut (due held_old held_new : List ℕ) (before : Option (List ℕ)) (faults_before : ℕ) (now : Option (List ℕ)) (faults_now : ℕ) : Type 0 where
  pub front : output.WritesFront before now due
  pub kept : held_new ≡ held_old
  pub rose : Rose faults_before faults_now

-- all that was held is written
pub record IsFlushed (old new : List ℕ) (before : Option (List ℕ)) (faults_before : ℕ) (now : Option (List ℕ)) (faults_now : ℕ) : Type 0 where
  pub added : Added before now old
  pub none_held : new ≡ []
  pub fine : faults_now ≡ faults_before

-- all that was held is written, or a write failed
abbrev pub Flushes : Result (Unit {0}) RunFault → List ℕ → List ℕ → Option (List ℕ) → ℕ → Option (List ℕ) → ℕ → Type 0
Flushes (Ok done) old new before faults_before now faults_now = IsFlushed old new before faults_before now faults_now
Flushes (Err WriteFault) old new before faults_before now faults_now = CouldNotPut old old new before faults_before now faults_now
Flushes (Err ReadFault) old new before faults_before now faults_now = ⊥
Flushes (Err Memory) old new before faults_before now faults_now = ⊥

-- bytes are put behind those that are held: where these were fewer than 65,536, so are those that are held now
pub record IsPut (bytes old new : List ℕ) (before : Option (List ℕ)) (faults_before : ℕ) (now : Option (List ℕ)) (faults_now : ℕ) : Type 0 where
  pub puts : output.Puts before now old bytes new
  pub fine : faults_now ≡ faults_before
  pub short : length old < OUTPUT_PIECE → length new < OUTPUT_PIECE

-- bytes are put behind those that are held, or a write failed
abbrev pub Puts : Result (Unit {0}) RunFault → List ℕ → List ℕ → List ℕ → Option (List ℕ) → ℕ → Option (List ℕ) → ℕ → Type 0
Puts (Ok done) bytes old new before faults_before now faults_now = IsPut bytes old new before faults_before now faults_now
Puts (Err WriteFault) bytes old new before faults_before now faults_now = CouldNotPut (old ++ bytes) old new before faults_before now faults_now
Puts (Err ReadFault) bytes old new before faults_before now faults_now = ⊥
Puts (Err Memory) bytes old new before faults_before now faults_now = ⊥

-- the run is over with this end: all that was held is written, or a write failed
abbrev pub Finishes : End → Result End RunFault → List ℕ → List ℕ → Option (List ℕ) → ℕ → Option (List ℕ) → ℕ → Type 0
Finishes end (Ok told) old new before faults_before now faults_now = (told ≡ end) × IsFlushed old new before faults_before now faults_now
Finishes end (Err WriteFault) old new before faults_before now faults_now = CouldNotPut old old new before faults_before now faults_now
Finishes end (Err ReadFault) old new before faults_before now faults_now = ⊥
Finishes end (Err Memory) old new before faults_before now faults_now = ⊥

-- the newest frame has that place
abbrev pub TakesByte : UnderWay → ℕ → Type 0
TakesByte s to = to < length (newest s.frames).leaves

-- the number that `getchar` gives for a byte, or at the end: -1 as an i32
abbrev pub number_got : Option ℕ → ℕ
number_got (Some byte) = byte
number_got None = END_OF_INPUT

-- what is written before a byte is taken: all that was held, where a read is due, or nothing
abbrev pub FlushesFirst : Waiting → List ℕ → List ℕ → Option (List ℕ) → Option (List ℕ) → Type 0
FlushesFirst waiting old new before now = (IsWaiting waiting × Added before now old × (new ≡ [])) ⊎ ((IsWaiting waiting → ⊥) × (now ≡ before) × (new ≡ old))

-- so much is written, or a write failed before a read that was due
abbrev pub MakesWay : Waiting → Result (Unit {0}) RunFault → List ℕ → List ℕ → Option (List ℕ) → ℕ → Option (List ℕ) → ℕ → Type 0
MakesWay waiting (Ok done) old new before faults_before now faults_now = FlushesFirst waiting old new before now × (faults_now ≡ faults_before)
MakesWay waiting (Err WriteFault) old new before faults_before now faults_now = IsWaiting waiting × CouldNotPut old old new before faults_before now faults_now
MakesWay waiting (Err ReadFault) old new before faults_before now faults_now = ⊥
MakesWay waiting (Err Memory) old new before faults_before now faults_now = ⊥

-- the newest frame got a byte, the next of the input, or -1 at its end
pub record Got (to : ℕ) (old new : UnderWay) (w v : Waiting) (held_old held_new : List ℕ) (before after : Outside) : Type 0 where
  pub byte : Option ℕ
  pub few : number_got byte < 2 ^ 32
  pub takes : Takes w byte v before.left after.left
  pub number : new ≡ changed (λ f. with_value f to (Int (number_got byte) ∷ [])) old
  pub flushes : FlushesFirst w held_old held_new before.taken after.taken
  pub read_faults : after.read_faults ≡ before.read_faults
  pub write_faults : after.write_faults ≡ before.write_faults

-- a read failed, before which all that was held was written
pub record CouldNotGet (w v : Waiting) (held_old held_new : List ℕ) (before after : Outside) : Type 0 where
  pub waits : IsWaiting w
  pub same : v ≡ w
  pub unread : after.left ≡ before.left
  pub added : Added before.taken after.taken held_old
  pub none_held : held_new ≡ []
  pub rose : Rose before.read_faults after.read_faults
  pub write_faults : after.write_faults ≡ before.write_faults

-- a write failed before a read that was due
pub record CouldNotFlush (w v : Waiting) (held_old held_new : List ℕ) (before after : Outside) : Type 0 where
  pub waits : IsWaiting w
  pub same : v ≡ w
  pub unread : after.left ≡ before.left
  pub put : CouldNotPut held_old held_old held_new before.taken before.write_faults after.taken after.write_faults
  pub read_faults : after.read_faults ≡ before.read_faults

-- by the answer
abbrev pub Gets : ℕ → Result (Unit {0}) RunFault → UnderWay → UnderWay → Waiting → Waiting → List ℕ → List ℕ → Outside → Outside → Type 0
Gets to (Ok done) old new w v held_old held_new before after = Got to old new w v held_old held_new before after
Gets to (Err ReadFault) old new w v held_old held_new before after = CouldNotGet w v held_old held_new before after
Gets to (Err WriteFault) old new w v held_old held_new before after = CouldNotFlush w v held_old held_new before after
Gets to (Err Memory) old new w v held_old held_new before after = ⊥

-- For `step` and `run` of a machine: what a call does to the machine, its source and its sink, by its answer.
-- A clause holds for every `rest` that the source may have left, told or not, and every `taken` that the sink may have taken before.
use Rattle.std.specs.Prelude.{◌≡◌, ◌↔◌, ◌⊎◌, ℕ, ◌<◌, ◌≤◌, true, false, List, [], ◌++◌, length, Option, Some, None, IfSome, Result, Ok, Err}
use Rattle.ir_base.specs.Outside.{Rose, Lost, Added}
use Rattle.run_rules.specs.declared.traffic.input.TheConstants.{INPUT_PIECE}
use Rattle.run_rules.specs.declared.traffic.output.TheConstants.{OUTPUT_PIECE}
use Rattle.run_rules.specs.Machine.{Machine, RunFault, ReadFault, WriteFault, Memory, state_of, step_of, asks_of, may_want, again, remembered}
use Rattle.run_rules.specs.State.{State, End}
use Rattle.run_rules.specs.Step.{Step, GoesOn, IsOver}

-- what is told of a source and a sink: the bytes left, the bytes taken, and the counts of faults
pub record Outside : Type 0 where
  pub left : Option (List ℕ)
  pub read_faults : ℕ
  pub taken : Option (List ℕ)
  pub write_faults : ℕ

-- the same, as a clause names it
abbrev pub outside : Option (List ℕ) → ℕ → Option (List ℕ) → ℕ → Outside
outside left read_faults taken write_faults = record { left = left; read_faults = read_faults; taken = taken; write_faults = write_faults }

-- the bytes begin with the front
abbrev pub IsFront : List ℕ → List ℕ → Type 0
IsFront front bytes = (rest : List ℕ) × (bytes ≡ front ++ rest)

-- the bytes that were read and those that were written in a call
pub record Traffic : Type 0 where
  pub heard : List ℕ
  pub flushed : List ℕ

-- these are what the source lost and the sink got
pub record Moves (t : Traffic) (before after : Outside) : Type 0 where
  pub lost : Lost before.left after.left t.heard
  pub added : Added before.taken after.taken t.flushed

-- the next instruction is a call of getchar, whatever is left
abbrev pub IsAsking : Machine → Type 0
IsAsking m = (rest taken : List ℕ) → asks_of m (state_of m rest taken) ≡ true

-- Bytes were read, for a getchar that found none, and nothing that was put out before is held back. At most 65,536 came,
-- and none exactly where from now on none are read
pub record HasRead (old new : Machine) (t : Traffic) (after : Outside) : Type 0 where
  pub asked : IsAsking old
  pub none_unused : old.unused ≡ []
  pub was_open : old.closed ≡ false
  pub few : length t.heard ≤ INPUT_PIECE
  pub none_held : new.unwritten ≡ []
  pub closes : (new.closed ≡ true) ↔ (t.heard ≡ [])
  pub at_end : new.closed ≡ true → IfSome after.left (λ rest. rest ≡ [])

-- what a step reads
abbrev pub Reads : Machine → Machine → Traffic → Outside → Type 0
Reads old new t after = ((t.heard ≡ []) × (new.closed ≡ old.closed)) ⊎ HasRead old new t after

-- where a read of this call has given no byte, none are left
abbrev pub IsRest : Machine → Machine → List ℕ → Type 0
IsRest old new rest = old.closed ≡ false → new.closed ≡ true → rest ≡ []

-- where from this call on none are read, the source has none left
abbrev pub IsAtEnd : Machine → Machine → Outside → Type 0
IsAtEnd old new after = old.closed ≡ false → new.closed ≡ true → IfSome after.left (λ rest. rest ≡ [])

-- output is gathered: none is written before 65,536 bytes are there, but before a read
abbrev pub Gathers : Machine → Machine → Traffic → Outside → Type 0
Gathers old new t after = (t.flushed ≡ []) ⊎ ((OUTPUT_PIECE ≤ length t.flushed) ⊎ HasRead old new t after)

-- no step is made
abbrev pub MakesNoStep : Machine → Machine → Type 0
MakesNoStep old new = (new.program ≡ old.program) × (new.steps ≡ old.steps)

-- no fault was met
abbrev pub NoFaults : Outside → Outside → Type 0
NoFaults before after = (after.read_faults ≡ before.read_faults) × (after.write_faults ≡ before.write_faults)

-- ---- one step

-- the step goes on
pub record Stepped (old new : Machine) (before after : Outside) : Type 0 where
  pub traffic : Traffic
  pub moves : Moves traffic before after
  pub reads : Reads old new traffic after
  pub same : new.program ≡ old.program
  pub fine : NoFaults before after
  pub gathers : Gathers old new traffic after
  pub short : length new.unwritten < OUTPUT_PIECE
  pub steps : (rest taken : List ℕ) → IsRest old new rest
      → step_of old (state_of old (traffic.heard ++ rest) taken) ≡ GoesOn (state_of new rest (taken ++ traffic.flushed))

-- how a step is over: the end, the output and the steps made
abbrev pub told : Step → Option (End × List ℕ × ℕ)
told (GoesOn s) = None
told (IsOver end s) = Some (end, s.output, s.steps)

-- what the machine does with its state ends the run, and all is written
pub record Ended (go : State → Step) (end : End) (old new : Machine) (before after : Outside) : Type 0 where
  pub flushed : List ℕ
  pub unread : after.left ≡ before.left
  pub added : Added before.taken after.taken flushed
  pub same : new.program ≡ old.program
  pub fine : NoFaults before after
  pub none_held : new.unwritten ≡ []
  pub waits : (new.unused ≡ old.unused) × (new.closed ≡ old.closed)
  pub ends : (rest taken : List ℕ) → told (go (state_of old rest taken)) ≡ Some (end, taken ++ flushed, new.steps)

-- what a step does that meets no fault
abbrev pub StepIs : Option End → Machine → Machine → Outside → Outside → Type 0
StepIs None old new before after = Stepped old new before after
StepIs (Some end) old new before after = Ended (step_of old) end old new before after

-- the output after a step
abbrev pub output_of : Step → List ℕ
output_of (GoesOn s) = s.output
output_of (IsOver end s) = s.output

-- a read failed: getchar is due and no byte is there, and all that was put out is written
pub record CouldNotRead (old new : Machine) (before after : Outside) : Type 0 where
  pub unread : after.left ≡ before.left
  pub added : Added before.taken after.taken old.unwritten
  pub rose : Rose before.read_faults after.read_faults
  pub write_faults : after.write_faults ≡ before.write_faults
  pub none_unused : (old.unused ≡ []) × (new.unused ≡ [])
  pub still_open : (old.closed ≡ false) × (new.closed ≡ false)
  pub none_held : new.unwritten ≡ []
  pub stays : MakesNoStep old new
  pub asked : IsAsking old

-- a write failed: a front is written of what was due to be written
pub record CouldNotWrite (due : State → List ℕ) (old new : Machine) (before after : Outside) : Type 0 where
  pub flushed : List ℕ
  pub unread : after.left ≡ before.left
  pub added : Added before.taken after.taken flushed
  pub rose : Rose before.write_faults after.write_faults
  pub read_faults : after.read_faults ≡ before.read_faults
  pub waits : (new.unused ≡ old.unused) × (new.closed ≡ old.closed)
  pub stays : MakesNoStep old new
  pub front : (rest taken : List ℕ) → IsFront (taken ++ flushed) (due (state_of old rest taken))

-- memory was wanted: no step is made, and nothing is read. What was put out may have been written for a getchar
pub record WantedMemory (old new : Machine) (before after : Outside) : Type 0 where
  pub may : may_want old ≡ true
  pub flushed : List ℕ
  pub unread : after.left ≡ before.left
  pub added : Added before.taken after.taken flushed
  pub gathers : (flushed ≡ []) ⊎ IsAsking old
  pub held : flushed ++ new.unwritten ≡ old.unwritten
  pub waits : (new.unused ≡ old.unused) × (new.closed ≡ old.closed)
  pub stays : MakesNoStep old new
  pub fine : NoFaults before after

-- what a step does that meets a fault
abbrev pub StepFails : RunFault → Machine → Machine → Outside → Outside → Type 0
StepFails ReadFault old new before after = CouldNotRead old new before after
StepFails WriteFault old new before after = CouldNotWrite (λ s. output_of (step_of old s)) old new before after
StepFails Memory old new before after = WantedMemory old new before after

-- what a step does of a machine that has not answered yet
abbrev pub StepAnswers : Result (Option End) RunFault → Machine → Machine → Outside → Outside → Type 0
StepAnswers (Ok end) old new before after = StepIs end old new before after
StepAnswers (Err fault) old new before after = StepFails fault old new before after

-- The clause of `step`: what was answered is answered again, and nothing is done; else a step is made, and an end or a fault is kept
pub record Steps (result : Result (Option End) RunFault) (old new : Machine) (before after : Outside) : Type 0 where
  pub first : old.answer ≡ None → StepAnswers result old new before after × (new.answer ≡ remembered result)
  pub repeats : (told : Result End RunFault) → old.answer ≡ Some told → (result ≡ again told) × (new ≡ old) × (after ≡ before)

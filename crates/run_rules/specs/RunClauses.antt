-- For `run` of a machine: what a call does, by its answer.
use Rattle.std.specs.Prelude.{◌≡◌, ◌⊎◌, ℕ, ◌+◌, ◌-◌, ◌<◌, ◌≤◌, true, false, nat_lt, List, [], ◌++◌, length, Some, None, Result, Ok, Err, if◌then◌else◌}
use Rattle.ir_base.specs.Outside.{Rose}
use Rattle.run_rules.specs.declared.traffic.input.TheConstants.{INPUT_PIECE}
use Rattle.run_rules.specs.declared.traffic.output.TheConstants.{OUTPUT_PIECE}
use Rattle.run_rules.specs.Machine.{Machine, RunFault, ReadFault, WriteFault, Memory, state_of, look_of, step_of, advanced_of, used_up_of, run_by, asks_of}
use Rattle.run_rules.specs.Clauses.{Outside, Traffic, Moves, MakesNoStep, IsRest, IsAtEnd, IsFront, NoFaults, Ended, CouldNotWrite, output_of, told}
use Rattle.run_rules.specs.State.{State, End}
use Rattle.run_rules.specs.Step.{GoesOn}
use Rattle.run_rules.specs.Wants.{may_want_memory}

-- ---- output before input

-- the run of a machine is before a getchar that gives the byte of the input at that place, counted from 0
pub record IsBeforeByte (old : Machine) (input : List ℕ) (place : ℕ) (at : State) : Type 0 where
  pub count : ℕ
  pub steps : advanced_of old count (state_of old input []) ≡ GoesOn at
  pub asks : asks_of old at ≡ true
  pub placed : length input ≡ place + length at.input
  pub there : 0 < length at.input

-- Of a machine that has just been opened: what is written holds the output before the getchar that gives the byte 65,536
-- places before the end of what was read, or the first byte
abbrev pub WritesBeforeItReads : Machine → Machine → Traffic → Type 0
WritesBeforeItReads old new t =
    (rest : List ℕ) (at : State) → IsRest old new rest → 0 < length t.heard
    → IsBeforeByte old (t.heard ++ rest) (length t.heard - INPUT_PIECE) at → IsFront at.output t.flushed

-- the getchar at which bytes were read last: how many steps there are with it, all of which were made, the place of its byte,
-- and the state after it, whose output is written
pub record LastRead (old new : Machine) (t : Traffic) : Type 0 where
  pub count : ℕ
  pub place : ℕ
  pub after : List ℕ → State
  pub within : old.steps + count ≤ new.steps
  pub reached : (rest : List ℕ) → IsRest old new rest → advanced_of old count (state_of old (t.heard ++ rest) []) ≡ GoesOn (after rest)
  pub consumed : (rest : List ℕ) → IsRest old new rest → length (after rest).input + place < length (t.heard ++ rest)
  pub written : (rest : List ℕ) → IsRest old new rest → IsFront (after rest).output t.flushed
  pub near : length t.heard ≤ place + INPUT_PIECE

-- no bytes were read, or what was put out before they were is written
abbrev pub ReadsWell : Machine → Machine → Traffic → Type 0
ReadsWell old new t = (t.heard ≡ []) ⊎ LastRead old new t

-- What holds of a run on its way and at each answer: bytes were read for a getchar alone, and none once a read has given none. Where
-- none are to be read from now on, the source has none left
pub record Went (old new : Machine) (t : Traffic) (before after : Outside) : Type 0 where
  pub moves : Moves t before after
  pub same : new.program ≡ old.program
  pub stays : old.closed ≡ true → (new.closed ≡ true) × (t.heard ≡ [])
  pub at_end : IsAtEnd old new after
  pub well : ReadsWell old new t

-- output is gathered: where fewer than 65,536 bytes of it were held back before, no more are
abbrev pub IsShort : Machine → Machine → Type 0
IsShort old new = length old.unwritten < OUTPUT_PIECE → length new.unwritten < OUTPUT_PIECE

-- ---- on the way

-- So many steps were made, none of which ended the run or met a fault: what holds while `run` goes on
pub record Reached (count : ℕ) (old new : Machine) (before after : Outside) : Type 0 where
  pub traffic : Traffic
  pub went : Went old new traffic before after
  pub fine : NoFaults before after
  pub made : new.steps ≡ old.steps + count
  pub short : IsShort old new
  pub steps : (rest taken : List ℕ) → IsRest old new rest
      → advanced_of old count (state_of old (traffic.heard ++ rest) taken) ≡ GoesOn (state_of new rest (taken ++ traffic.flushed))

-- No step is left, and what was due is entered: the run ends, by that or because a step is due; all is written, and nothing is read
abbrev pub Halted : End → Machine → Machine → Outside → Outside → Type 0
Halted end old new before after = Ended (used_up_of old) end old new before after

-- no step is left, and what was put out could not be written
abbrev pub CouldNotHalt : Machine → Machine → Outside → Outside → Type 0
CouldNotHalt old new before after = CouldNotWrite (λ s. s.output) old new before after

-- no step is left, and memory was wanted for entering what is due: nothing is read or written
pub record WantedToHalt (old new : Machine) (before after : Outside) : Type 0 where
  pub idle : old.core.frames ≡ []
  pub quiet : after ≡ before
  pub held : new.unwritten ≡ old.unwritten
  pub waits : (new.unused ≡ old.unused) × (new.closed ≡ old.closed)
  pub stays : MakesNoStep old new

-- ---- the answers

-- the run comes to this end, and all is written
pub record RunEnds (bound : ℕ) (end : End) (old new : Machine) (before after : Outside) : Type 0 where
  pub traffic : Traffic
  pub went : Went old new traffic before after
  pub fine : NoFaults before after
  pub none_held : new.unwritten ≡ []
  pub runs : (rest taken : List ℕ) → IsRest old new rest
      → told (run_by old bound (state_of old (traffic.heard ++ rest) taken)) ≡ Some (end, taken ++ traffic.flushed, new.steps)

-- some steps, no more than the bound allows, come to a state that is still on its way, and these are the steps that are told
pub record Came (bound : ℕ) (old new : Machine) (t : Traffic) (rest taken : List ℕ) (at : State) : Type 0 where
  pub count : ℕ
  pub within : count ≤ bound - old.steps
  pub made : new.steps ≡ at.steps
  pub steps : advanced_of old count (state_of old (t.heard ++ rest) taken) ≡ GoesOn at

-- a read failed at a getchar that found none of the bytes read, before which all was written. No read had given none
pub record RunCouldNotRead (bound : ℕ) (old new : Machine) (before after : Outside) : Type 0 where
  pub traffic : Traffic
  pub went : Went old new traffic before after
  pub rose : Rose before.read_faults after.read_faults
  pub write_faults : after.write_faults ≡ before.write_faults
  pub none_unused : new.unused ≡ []
  pub still_open : (old.closed ≡ false) × (new.closed ≡ false)
  pub none_held : new.unwritten ≡ []
  pub comes : (rest taken : List ℕ) → IsRest old new rest
      → (at : State)
      × Came bound old new traffic rest taken at
      × (at.steps < bound)
      × (asks_of old at ≡ true)
      × (at.input ≡ rest)
      × (at.output ≡ taken ++ traffic.flushed)

-- the output at a state, and of its next instruction where one is to be carried out
abbrev pub output_within : ℕ → Machine → State → List ℕ
output_within bound old at = if nat_lt at.steps bound then output_of (step_of old at) else at.output

-- A write failed, and a front is written of what the steps put out, and the one under way. It lacks fewer than 65,536 bytes of what
-- the steps before that one put out, where no more were held back before
pub record RunCouldNotWrite (bound : ℕ) (old new : Machine) (before after : Outside) : Type 0 where
  pub traffic : Traffic
  pub went : Went old new traffic before after
  pub rose : Rose before.write_faults after.write_faults
  pub read_faults : after.read_faults ≡ before.read_faults
  pub comes : (rest taken : List ℕ) → IsRest old new rest
      → (at : State) × Came bound old new traffic rest taken at × IsFront (taken ++ traffic.flushed) (output_within bound old at)
      × (length old.unwritten < OUTPUT_PIECE → length at.output < length (taken ++ traffic.flushed) + OUTPUT_PIECE)

-- memory was wanted on the way, at a place where it may be
pub record RunWantedMemory (bound : ℕ) (old new : Machine) (before after : Outside) : Type 0 where
  pub traffic : Traffic
  pub went : Went old new traffic before after
  pub fine : NoFaults before after
  pub short : IsShort old new
  pub comes : (rest taken : List ℕ) → IsRest old new rest
      → (at : State) × Came bound old new traffic rest taken at × (may_want_memory (look_of old) at.core.frames ≡ true)
      × (at.output ≡ taken ++ (traffic.flushed ++ new.unwritten))

-- what a run does that meets a fault
abbrev pub RunFails : ℕ → RunFault → Machine → Machine → Outside → Outside → Type 0
RunFails bound ReadFault old new before after = RunCouldNotRead bound old new before after
RunFails bound WriteFault old new before after = RunCouldNotWrite bound old new before after
RunFails bound Memory old new before after = RunWantedMemory bound old new before after

-- what a run does of a machine that has not answered yet
abbrev pub RunAnswers : ℕ → Result End RunFault → Machine → Machine → Outside → Outside → Type 0
RunAnswers bound (Ok end) old new before after = RunEnds bound end old new before after
RunAnswers bound (Err fault) old new before after = RunFails bound fault old new before after

-- The clause of `run`: what was answered is answered again, and nothing is done; else the run goes on to an end or a fault, which is
-- kept
pub record Runs (bound : ℕ) (result : Result End RunFault) (old new : Machine) (before after : Outside) : Type 0 where
  pub first : old.answer ≡ None → RunAnswers bound result old new before after × (new.answer ≡ Some result)
  pub repeats : (told : Result End RunFault) → old.answer ≡ Some told → (result ≡ told) × (new ≡ old) × (after ≡ before)

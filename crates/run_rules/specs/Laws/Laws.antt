-- For `steps_make_up_a_run` and `a_run_writes_before_it_reads`: how a run is made of the steps of a machine, each of which is as its
-- clause says, and what the clause of `run` says of output and input.
use Rattle.std.specs.Prelude.{ℕ, suc, ◌-◌, ◌<◌, ◌≤◌}
use Rattle.run_rules.specs.Clauses.{Outside, Traffic, Stepped, Ended, StepFails}
use Rattle.run_rules.specs.declared.fault.RunFault.{RunFault}
use Rattle.run_rules.specs.declared.fault.RunFault.TheVariants.{WriteFault, Memory}
use Rattle.run_rules.specs.Machine.{Machine, IsNew, step_of}
use Rattle.run_rules.specs.RunClauses.{WritesBeforeItReads, ReadsWell, Reached, Halted, CouldNotHalt, WantedToHalt, RunEnds, RunFails}
use Rattle.run_rules.specs.declared.end.End.{End}

-- the bound allows so many steps, and mid has come that far
pub record IsWithin (bound count : ℕ) (old mid : Machine) (before now : Outside) : Type 0 where
  pub reached : Reached count old mid before now
  pub allowed : count ≤ bound - old.steps

-- What `run` is at each of its turns, and what it comes to
pub record StepsMakeUpARun : Type 0 where
  -- before the first step
  pub none : (bound : ℕ) (m : Machine) (o : Outside) → IsWithin bound 0 m m o o
  -- one step more that goes on
  pub more : (bound n : ℕ) (old mid new : Machine) (a b c : Outside) → IsWithin bound n old mid a b → mid.steps < bound → Stepped mid new b c
      → IsWithin bound (suc n) old new a c
  -- a step that ends the run
  pub ends : (bound n : ℕ) (end : End) (old mid new : Machine) (a b c : Outside) → IsWithin bound n old mid a b → mid.steps < bound
      → Ended (step_of mid) end mid new b c → RunEnds bound end old new a c
  -- a step that meets a fault
  pub fails : (bound n : ℕ) (fault : RunFault) (old mid new : Machine) (a b c : Outside) → IsWithin bound n old mid a b → mid.steps < bound
      → StepFails fault mid new b c → RunFails bound fault old new a c
  -- no step is left
  pub halts : (bound n : ℕ) (end : End) (old mid new : Machine) (a b c : Outside) → IsWithin bound n old mid a b → bound ≤ mid.steps
      → Halted end mid new b c → RunEnds bound end old new a c
  -- no step is left, and what was put out is not written
  pub is_lost : (bound n : ℕ) (old mid new : Machine) (a b c : Outside) → IsWithin bound n old mid a b → bound ≤ mid.steps
      → CouldNotHalt mid new b c → RunFails bound WriteFault old new a c
  -- no step is left, and memory is wanted for entering what is due
  pub wants : (bound n : ℕ) (old mid new : Machine) (a b c : Outside) → IsWithin bound n old mid a b → bound ≤ mid.steps
      → WantedToHalt mid new b c → RunFails bound Memory old new a c

-- A run of a machine that has just been opened writes before it reads, at each of its answers: each of these says how it read
abbrev pub WritesFirst : Type 0
WritesFirst = (old new : Machine) (t : Traffic) → IsNew old → ReadsWell old new t → WritesBeforeItReads old new t

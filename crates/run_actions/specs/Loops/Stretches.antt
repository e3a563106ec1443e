-- For `go_on` of what makes steps, and how the code of `run` reads: steps that are made in one go.
use Rattle.std.specs.Prelude.{◌≡◌, ℕ, zero, suc, ◌<◌, Option, Some, None, Result, Ok, Err}
use Rattle.run_rules.specs.declared.end.End.{End}
use Rattle.run_rules.specs.declared.fault.RunFault.{RunFault}
use Rattle.run_rules.specs.Clauses.{Outside, Stepped, Ended, StepFails}
use Rattle.run_rules.specs.Machine.{Machine, step_of}

-- so many steps were made, each while fewer than the bound were; each goes on, and nothing is read or written
abbrev pub WentOn : ℕ → ℕ → Machine → Machine → Type 0
WentOn bound zero old new = new ≡ old
WentOn bound (suc n) old new = (mid : Machine) × WentOn bound n old mid × (mid.steps < bound) × ((o : Outside) → Stepped mid new o o)

-- then nothing, or, with one step more, the run is over or a fault is met
abbrev pub StretchEnds : ℕ → Result (Option End) RunFault → Machine → Machine → Outside → Outside → Type 0
StretchEnds bound (Ok None) mid new before after = (new ≡ mid) × (after ≡ before)
StretchEnds bound (Ok (Some end)) mid new before after = (mid.steps < bound) × Ended (step_of mid) end mid new before after
StretchEnds bound (Err fault) mid new before after = (mid.steps < bound) × StepFails fault mid new before after

-- a stretch of steps, by its answer
pub record Stretches (bound : ℕ) (result : Result (Option End) RunFault) (old new : Machine) (before after : Outside) : Type 0 where
  pub count : ℕ
  pub mid : Machine
  pub went : WentOn bound count old mid
  pub ends : StretchEnds bound result mid new before after

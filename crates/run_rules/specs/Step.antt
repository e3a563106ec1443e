-- For `equal_look_ups_give_equal_runs`: one step of a run, and a run. `look` gives the action at a place of a function, and
-- `table` what an address has.
use Rattle.std.specs.Prelude.{ℕ, zero, suc, ◌+◌, List, [], ◌∷◌, ◌++◌}
use Rattle.ir_tables.specs.declared.undefined_kind.UndefinedKind.TheVariants as kinds
use Rattle.ir_eval.specs.declared.value.Scalar.TheVariants.{Int}
use Rattle.ir_memory.specs.Memory.{Blocks}
use Rattle.run_rules.specs.declared.host.TheConstants.{END_OF_INPUT}
use Rattle.run_rules.specs.Act.{act}
use Rattle.run_rules.specs.Action.{Action}
use Rattle.run_rules.specs.Calls.{Callee, handed}
use Rattle.run_rules.specs.Due.{called_due}
use Rattle.run_rules.specs.State.{Frame, Due, Core, State, End, StepsUsed, Next, Goes, Gets, Stops, fails}

-- the next state; or the end, with the output and the steps of the last state
pub data Step : Type 0 where
  GoesOn : (state : State) → Step
  IsOver : (end : End) → (state : State) → Step

-- the newest frame gets a number
abbrev pub got : ℕ → ℕ → Core → Core
got to number c = record c { frames = handed to (Int number ∷ []) c.frames }

-- the next byte of the input, or -1 at its end
abbrev pub took : State → ℕ → Core → List ℕ → Step
took s to c [] = GoesOn (record s { core = got to END_OF_INPUT c })
took s to c (byte ∷ input) = GoesOn (record s { core = got to byte c; input = input })

-- what an instruction does to a state
abbrev pub carried : State → Next → Step
carried s (Goes c written) = GoesOn (record s { core = c; output = s.output ++ written })
carried s (Gets to c) = took s to c s.input
carried s (Stops end) = IsOver end s

-- goes on, unless the run is over
abbrev pub then_on : (State → Step) → Step → Step
then_on rest (GoesOn s) = rest s
then_on rest (IsOver end s) = IsOver end s

-- while no function is under way, the next of these is called
abbrev pub called_while_idle : (ℕ → Callee) → List Due → List Frame → State → Step
called_while_idle table [] frames s = GoesOn s
called_while_idle table (d ∷ ds) (f ∷ fs) s = GoesOn s
called_while_idle table (d ∷ ds) [] s =
    then_on (λ t. called_while_idle table ds t.core.frames t) (carried s (called_due table d (record s.core { due = ds })))

-- what is due is entered, which is no step
abbrev pub entered : (ℕ → Callee) → State → Step
entered table s = called_while_idle table s.core.due s.core.frames s

-- The instruction of the newest frame. Where there is none, which no run of a valid module comes to, the end is that of `unreachable`
abbrev pub instruction : (ℕ → ℕ → ℕ → Action) → (ℕ → Callee) → List Frame → List Due → Blocks → Next
instruction look table [] due m = fails kinds.Unreachable
instruction look table (f ∷ fs) due m = act table (look f.function f.block f.position) f (record { frames = fs; due = due; memory = m })

-- what the next instruction does
abbrev pub next_of : (ℕ → ℕ → ℕ → Action) → (ℕ → Callee) → Core → Next
next_of look table c = instruction look table c.frames c.due c.memory

-- one step more
abbrev pub counted : State → State
counted s = record s { steps = s.steps + 1 }

-- what is due is entered, and then an instruction is carried out, which is one step
abbrev pub step : (ℕ → ℕ → ℕ → Action) → (ℕ → Callee) → State → Step
step look table s = then_on (λ t. carried (counted t) (next_of look table t.core)) (entered table s)

-- so many steps
unfoldable pub advanced : (ℕ → ℕ → ℕ → Action) → (ℕ → Callee) → ℕ → State → Step
advanced look table zero s = GoesOn s
advanced look table (suc n) s = then_on (advanced look table n) (step look table s)

-- no step is left. What is due is entered before that is asked
abbrev pub used_up : (ℕ → Callee) → State → Step
used_up table s = then_on (IsOver StepsUsed) (entered table s)

-- the run of a state that may take so many steps more
abbrev pub run : (ℕ → ℕ → ℕ → Action) → (ℕ → Callee) → ℕ → State → Step
run look table n s = then_on (used_up table) (advanced look table n s)

-- how a run ended: its output and its end
pub record Outcome : Type 0 where
  pub output : List ℕ
  pub end : End

-- a run is never left on its way
abbrev pub outcome : Step → Outcome
outcome (IsOver end s) = record { output = s.output; end = end }
outcome (GoesOn s) = record { output = s.output; end = StepsUsed }

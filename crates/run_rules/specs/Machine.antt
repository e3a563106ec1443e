-- For `open`, `step`, `run` and `steps` of a machine: a machine as its callers see it.
-- It is the state of a run, with the bytes that wait in place of its input and output.
use Rattle.std.specs.Prelude.{◌≡◌, ℕ, ◌-◌, Bool, false, List, [], ◌∷◌, ◌++◌, Option, Some, None, Result, Ok, Err, if◌then◌else◌}
use Rattle.module_arena.specs.Module.{Module}
pub use Rattle.run_rules.specs.declared.fault.RunFault.{RunFault}
pub use Rattle.run_rules.specs.declared.fault.RunFault.TheVariants.{ReadFault, WriteFault, Memory}
use Rattle.run_rules.specs.Action.{Action}
use Rattle.run_rules.specs.Calls.{Callee}
use Rattle.run_rules.specs.Look.{look, table}
use Rattle.run_rules.specs.State.{Core, State, End}
use Rattle.run_rules.specs.Opening.{opened}
use Rattle.run_rules.specs.Plan.{plan}
use Rattle.run_rules.specs.Step.{Step, step, advanced, used_up, run}
use Rattle.run_rules.specs.Wants.{asks, may_want_memory}

-- `unused` was read and is not used yet, `unwritten` was put out and is not written yet. Nothing is read any more once a
-- read has given no byte. `answer` is the end or fault that a call has answered
pub record Machine : Type 0 where
  pub program : Module
  pub core : Core
  pub steps : ℕ
  pub unused : List ℕ
  pub closed : Bool
  pub unwritten : List ℕ
  pub answer : Option (Result End RunFault)

-- after opening
abbrev pub new_machine : Module → Core → Machine
new_machine m c = record { program = m; core = c; steps = 0; unused = []; closed = false; unwritten = []; answer = None }

-- the clause of `open`: what it gives, or how the run ends before it has begun
abbrev pub opened_machine : Module → List (List ℕ) → Result Machine End
opened_machine m arguments = elim (opened (plan (m ∷ [])) arguments) [ Ok c ↦ Ok (new_machine m c) | Err end ↦ Err end ]

-- nothing is read, put out or answered yet
abbrev pub IsNew : Machine → Type 0
IsNew m = (m.unused ≡ []) × (m.closed ≡ false) × (m.unwritten ≡ []) × (m.steps ≡ 0) × (m.answer ≡ None)

-- the input left, where the source has those bytes left
abbrev pub input_left : Machine → List ℕ → List ℕ
input_left m rest = m.unused ++ (if m.closed then [] else rest)

-- the state of the run, where the source has `rest` left and the sink has taken `taken`
abbrev pub state_of : Machine → List ℕ → List ℕ → State
state_of m rest taken = record { core = m.core; input = input_left m rest; output = taken ++ m.unwritten; steps = m.steps }

-- what stands at a place of its program
abbrev pub look_of : Machine → ℕ → ℕ → ℕ → Action
look_of m = look (m.program ∷ [])

-- what an address has in its program
abbrev pub table_of : Machine → ℕ → Callee
table_of m = table (m.program ∷ [])

-- its step
abbrev pub step_of : Machine → State → Step
step_of m s = step (look_of m) (table_of m) s

-- so many steps
abbrev pub advanced_of : Machine → ℕ → State → Step
advanced_of m n s = advanced (look_of m) (table_of m) n s

-- until its steps are at least the bound
abbrev pub run_by : Machine → ℕ → State → Step
run_by m bound s = run (look_of m) (table_of m) (bound - s.steps) s

-- its end where no step is left, but for an end that comes on entering what is due
abbrev pub used_up_of : Machine → State → Step
used_up_of m s = used_up (table_of m) s

-- whether the next instruction is a call of getchar
abbrev pub asks_of : Machine → State → Bool
asks_of m s = asks (look_of m) (table_of m) s

-- whether the next step may want memory
abbrev pub may_want : Machine → Bool
may_want m = may_want_memory (look_of m) m.core.frames

-- what every later call of `step` answers; `run` answers what was told itself
abbrev pub again : Result End RunFault → Result (Option End) RunFault
again (Ok end) = Ok (Some end)
again (Err fault) = Err fault

-- what a call of `step` leaves to be answered again
abbrev pub remembered : Result (Option End) RunFault → Option (Result End RunFault)
remembered (Ok None) = None
remembered (Ok (Some end)) = Some (Ok end)
remembered (Err fault) = Some (Err fault)

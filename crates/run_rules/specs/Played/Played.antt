-- For `runs_are_played`: a program, what it prints and how it ends, and what an answer tells of that.
use Rattle.std.specs.Prelude.{◌≡◌, ℕ, ◌+◌, ◌-◌, ◌<◌, ◌≤◌, Bool, true, List, [], ◌∷◌, ◌++◌, length, IfSome, Result, Ok, Err}
use Rattle.ir_base.specs.Outside.{Rose, Lost, Added}
use Rattle.run_rules.specs.declared.traffic.input.TheConstants.{INPUT_PIECE}
use Rattle.module_arena.specs.Module.{Module}
use Rattle.run_rules.specs.Clauses.{Outside, IsFront, NoFaults}
use Rattle.run_rules.specs.Look.{look, table}
use Rattle.run_rules.specs.Opening.{opened}
use Rattle.run_rules.specs.Plan.{plan}
use Rattle.run_rules.specs.Side.{Side, begun}
use Rattle.run_rules.specs.State.{Core, State}
use Rattle.run_rules.specs.Step.{Outcome, GoesOn, advanced}
use Rattle.run_rules.specs.Wants.{asks}
use Rattle.run_rules.specs.declared.end.End.{End}
use Rattle.run_rules.specs.declared.fault.RunFault.{RunFault}
use Rattle.run_rules.specs.declared.fault.RunFault.TheVariants.{ReadFault, WriteFault, Memory}

-- a program: its module, its words, and how many steps it may make
pub record Program : Type 0 where
  pub code : Module
  pub words : List (List ℕ)
  pub bound : ℕ

-- what it prints over that input, and how it ends
abbrev pub outcome_of : Program → List ℕ → Outcome
outcome_of p input = Side (p.code ∷ []) p.words input p.bound

-- so many steps over that input, no more than it may make, come to this state
pub record Reaches (p : Program) (input : List ℕ) (at : State) : Type 0 where
  pub core : Core
  pub opens : opened (plan (p.code ∷ [])) p.words ≡ Ok core
  pub count : ℕ
  pub within : count ≤ p.bound
  pub steps : advanced (look (p.code ∷ [])) (table (p.code ∷ [])) count (begun core input) ≡ GoesOn at

-- at this state a getchar is due, for which there is a step, that finds so many bytes of the input used
pub record AsksAt (p : Program) (input : List ℕ) (used : ℕ) (at : State) : Type 0 where
  pub reaches : Reaches p input at
  pub due : at.steps < p.bound
  pub asks_there : asks (look (p.code ∷ [])) (table (p.code ∷ [])) at ≡ true
  pub placed : length input ≡ used + length at.input

-- it is the first that does
pub record AsksFirst (p : Program) (input : List ℕ) (used : ℕ) (at : State) : Type 0 where
  pub is_asking : AsksAt p input used at
  pub first : (other : State) → AsksAt p input used other → at.steps ≤ other.steps

-- What was printed by an answer, where these bytes of the input were read:
--   an end: that of the program, and all its output
--   the input could not be read: exactly the output before the first getchar that finds these bytes used up
--   the output could not be written, or memory ran out: a front of its output
abbrev pub HasPrinted : Program → List ℕ → List ℕ → List ℕ → Result End RunFault → Type 0
HasPrinted p input heard put (Ok end) = outcome_of p input ≡ record { output = put; end = end }
HasPrinted p input heard put (Err ReadFault) = (at : State) × AsksFirst p input (length heard) at × (put ≡ at.output)
HasPrinted p input heard put (Err WriteFault) = IsFront put (outcome_of p input).output
HasPrinted p input heard put (Err Memory) = IsFront put (outcome_of p input).output

-- Bytes are read for a getchar alone, and not while earlier output is held: where some were, a state that the program reaches has used the byte 65,536 places
-- before the end of what was read, or the first byte, and all its output was put.
abbrev pub PutsBeforeItReads : Program → List ℕ → List ℕ → List ℕ → Type 0
PutsBeforeItReads p input heard put =
    0 < length heard → (after : State) × Reaches p input after × (length after.input + (length heard - INPUT_PIECE) < length input) × IsFront after.output put

-- which counts of faults rose by an answer
abbrev pub HasFaulted : Result End RunFault → Outside → Outside → Type 0
HasFaulted (Ok end) before after = NoFaults before after
HasFaulted (Err ReadFault) before after = Rose before.read_faults after.read_faults × (after.write_faults ≡ before.write_faults)
HasFaulted (Err WriteFault) before after = Rose before.write_faults after.write_faults × (after.read_faults ≡ before.read_faults)
HasFaulted (Err Memory) before after = NoFaults before after

-- How a program was run to an answer: the bytes of its input that were read, and those that it put out; whether a read has given no byte, so that none are
-- left; and what all that is of its run, whatever bytes are left behind those that were read.
pub record Plays (p : Program) (answer : Result End RunFault) (before after : Outside) : Type 0 where
  pub heard : List ℕ
  pub put : List ℕ
  pub lost : Lost before.left after.left heard
  pub added : Added before.taken after.taken put
  pub faulted : HasFaulted answer before after
  pub over : Bool
  pub at_end : over ≡ true → IfSome after.left (λ rest. rest ≡ [])
  pub printed : (rest : List ℕ) → (over ≡ true → rest ≡ []) → HasPrinted p (heard ++ rest) heard put answer
  pub early : (rest : List ℕ) → (over ≡ true → rest ≡ []) → PutsBeforeItReads p (heard ++ rest) heard put

-- For `load`, `store`, `allocate` and `displace`: what the definition says of an action that sees memory, whatever addresses have and
-- whatever is due.
use Rattle.std.specs.Prelude.{◌≡◌, ℕ, ◌||◌, true, ⊤, List, [], Result, Ok, Err}
use Rattle.std.specs.List.{list_any}
use Rattle.ir_eval.specs.declared.value.Scalar.{Scalar}
use Rattle.ir_memory.specs.declared.fault.MemoryFault.{MemoryFault}
use Rattle.ir_memory.specs.declared.fault.MemoryFault.TheVariants as faults
use Rattle.ir_memory.specs.Memory.{Blocks}
use Rattle.run_rules.specs.declared.end.End.{End}
use Rattle.run_rules.specs.declared.end.End.TheVariants as ends
use Rattle.run_rules.specs.Access.{stored_value}
use Rattle.run_rules.specs.Action.{Action}
use Rattle.run_rules.specs.Calls.{Callee}
use Rattle.run_rules.specs.Leaves.{Slot, is_pointer}
use Rattle.run_rules.specs.State.{Due, Goes, Stops}
use Rattle.run_rules.specs.Wants.{is_wide, wants_memory}
use Rattle.run_actions.specs.Stack.UnderWay.{UnderWay}
use Rattle.run_actions.specs.Carried.{acted, core_of}

-- the run goes on with the frames and the memory that there are now, and nothing is written
pub record IsDone (action : Action) (old new : UnderWay) (m n : Blocks) : Type 0 where
  pub goes : (table : ℕ → Callee) (due : List Due) → acted table action old.frames due m ≡ Goes (core_of new.frames due n) []
  pub width : new.widest ≡ old.widest

-- the program ends so
abbrev pub IsStopped : Action → End → UnderWay → Blocks → Type 0
IsStopped action end old m = (table : ℕ → Callee) (due : List Due) → acted table action old.frames due m ≡ Stops end

-- by the answer. Where memory was wanted, the action is one that may want it
abbrev pub Accesses : {T : Type 0} → Action → Result T MemoryFault → UnderWay → UnderWay → Blocks → Blocks → Type 0
Accesses action (Ok done) old new m n = IsDone action old new m n
Accesses action (Err (faults.Undefined kind)) old new m n = IsStopped action (ends.Undefined kind) old m
Accesses action (Err faults.MemoryLimit) old new m n = IsStopped action ends.MemoryLimit old m
Accesses action (Err faults.Memory) old new m n = wants_memory action ≡ true

-- where the program ends, frames and memory are as they were
abbrev pub StaysAtAnEnd : {T : Type 0} → Result T MemoryFault → UnderWay → UnderWay → Blocks → Blocks → Type 0
StaysAtAnEnd (Ok done) old new m n = ⊤
StaysAtAnEnd (Err (faults.Undefined kind)) old new m n = (new ≡ old) × (n ≡ m)
StaysAtAnEnd (Err faults.MemoryLimit) old new m n = (new ≡ old) × (n ≡ m)
StaysAtAnEnd (Err faults.Memory) old new m n = ⊤

-- what a store says by its answer. Memory is wanted where there are more leaves than one, or one is a pointer
abbrev pub IsStoredAt : {T : Type 0} → Scalar → ℕ → List (Slot × Scalar) → Result T MemoryFault → Blocks → Blocks → Type 0
IsStoredAt address align value (Ok done) old new = stored_value address align value old ≡ Ok new
IsStoredAt address align value (Err (faults.Undefined kind)) old new = stored_value address align value old ≡ Err kind
IsStoredAt address align value (Err faults.Memory) old new = (is_wide value || list_any (λ x. is_pointer x.0.leaf) value) ≡ true
IsStoredAt address align value (Err faults.MemoryLimit) old new = ⊥

-- What is loaded carries an action out, and as many leaves are loaded as there are slots.
use Rattle.std.proofs.Common.{◌≡◌, ℕ, suc, List, [], ◌∷◌, length, Result, Ok, Err, refl, sym, ap, ◌∙◌}
use Rattle.ir_memory.specs.declared.fault.MemoryFault.{MemoryFault}
use Rattle.ir_memory.specs.declared.fault.MemoryFault.TheVariants as faults
use Rattle.ir_tables.specs.declared.undefined_kind.UndefinedKind.{UndefinedKind}
use Rattle.ir_eval.specs.declared.value.Pointer.{Pointer}
use Rattle.ir_eval.specs.declared.value.Scalar.{Scalar}
use Rattle.ir_eval.specs.declared.value.Scalar.TheVariants.{Int, Ptr, Poison}
use Rattle.ir_memory.specs.Memory as memory
use Rattle.ir_memory.specs.Memory.{Blocks}
use Rattle.run_rules.specs.Access.{behind, in_front, loaded_slots, loaded_value}
use Rattle.run_rules.specs.Act.{loads}
use Rattle.run_rules.specs.Action.{Load}
use Rattle.run_rules.specs.Calls.{Callee}
use Rattle.run_rules.specs.Frame.{with_result}
use Rattle.run_rules.specs.Leaves.{Slot}
use Rattle.run_rules.specs.State.{Due}
use Rattle.run_actions.specs.declared.stack.origin.Origin.{Origin}
use Rattle.run_actions.specs.Stack.Origins.{origin_of}
use Rattle.run_actions.specs.Stack.UnderWay.{UnderWay, IsRunning, changed, newest, older}
use Rattle.run_actions.specs.Carried.{acted, core_of}
use Rattle.run_actions.specs.Operands.{leaf_of}
use Rattle.run_actions.specs.Accesses.Done.{Accesses, IsDone}
use Rattle.run_actions.proofs.OnAccesses.Storing.{done}

in_front_long : {A E : Type 0} (first : Result A E) (rest : Result (List A) E) (vs : List A) (n : ℕ) → in_front first rest ≡ Ok vs → ((ws : List A) → rest ≡ Ok ws → length ws ≡ n) → length vs ≡ suc n
in_front_long (Err e) rest vs n is h = cc
in_front_long (Ok x) (Err e) vs n is h = cc
in_front_long (Ok x) (Ok xs) vs n is h = let same : x ∷ xs ≡ vs = cc in sym (ap length same) ∙ ap suc (h xs refl)

slots_long : (m : Blocks) (p : Pointer) (align : ℕ) (slots : List Slot) (vs : List Scalar) → loaded_slots m p align slots ≡ Ok vs → length vs ≡ length slots
slots_long m p align [] vs is = let same : [] ≡ vs = cc in sym (ap length same)
slots_long m p align (s ∷ ss) vs is =
    in_front_long (memory.loaded m (Ptr (behind p s.offset)) s.leaf align) (loaded_slots m p 1 ss) vs (length ss) is (λ ws e. slots_long m p 1 ss ws e)

pub value_long : (m : Blocks) (v : Scalar) (align : ℕ) (slots : List Slot) (vs : List Scalar) → loaded_value m v align slots ≡ Ok vs → length vs ≡ length slots
value_long m (Ptr p) align slots vs is = slots_long m p align slots vs is
value_long m (Int n) align slots vs is = cc
value_long m Poison align slots vs is = cc

-- what was loaded is the result
pub loaded : (to align : ℕ) (address : Origin) (slots : List Slot) (old new : UnderWay) (m : Blocks) (value : List Scalar) → IsRunning old.frames → new ≡ changed (λ f. with_result f to value) old
    → loaded_value m (leaf_of old address) align slots ≡ Ok value → IsDone (Load to align (origin_of address) slots) old new m m
loaded to align address slots old new m value running is e =
    done (Load to align (origin_of address) slots) (λ f. with_result f to value) old new m m running is
    (λ table due. ap (λ (r : Result (List Scalar) UndefinedKind). loads to r (newest old.frames) (core_of (older old.frames) due m)) e)

-- of an address nothing counts but what is read of it
module _ (to align : ℕ) (from other : Origin) (slots : List Slot) (old new : UnderWay) (m n : Blocks) where
  alike : leaf_of old from ≡ leaf_of old other → (table : ℕ → Callee) (due : List Due) → acted table (Load to align (origin_of from) slots) old.frames due m ≡ acted table (Load to align (origin_of other) slots) old.frames due m
  alike e table due = ap (λ v. loads to (loaded_value m v align slots) (newest old.frames) (core_of (older old.frames) due m)) e

  pub loads_alike : (r : Result (Unit {0}) MemoryFault) → leaf_of old from ≡ leaf_of old other → Accesses {T = Unit {0}} (Load to align (origin_of other) slots) r old new m n
      → Accesses {T = Unit {0}} (Load to align (origin_of from) slots) r old new m n
  loads_alike (Ok x) e h = record { goes = λ table due. alike e table due ∙ h.goes table due; width = h.width }
  loads_alike (Err (faults.Undefined kind)) e h = λ table due. alike e table due ∙ h table due
  loads_alike (Err faults.Memory) e h = h
  loads_alike (Err faults.MemoryLimit) e h = λ table due. alike e table due ∙ h table due

-- For `call_due` and `DueCalls`: what is due, as the code has it.
use Rattle.std.specs.Prelude.{◌≡◌, ℕ, ⊤, List, [], ◌∷◌, Option, Some, None}
use Rattle.ir_eval.specs.declared.value.Scalar.{Scalar}
use Rattle.ir_eval.specs.declared.value.Scalar.TheVariants.{Int, Ptr}
use Rattle.module_arena.specs.Module.{Module}
use Rattle.run_rules.specs.Places.Places.{IsFunctionOf}
use Rattle.run_rules.specs.Action.{Signature}
use Rattle.run_rules.specs.Due.{plain_main, main_with_arguments}
use Rattle.run_rules.specs.Look.{look, table}
use Rattle.run_rules.specs.State as rules
use Rattle.run_rules.specs.State.{Due}
use Rattle.run_acts.specs.declared.due.DueCall.{DueCall}
use Rattle.run_acts.specs.declared.due.DueCall.TheVariants.{Constructor, Main, MainWith}

-- what is meant
abbrev pub due_of : DueCall → Due
due_of (Constructor address) = rules.Constructor address
due_of (Main address) = rules.Main address
due_of (MainWith address count array) = rules.MainWith address count array

-- the first that is due, or None where none is; the others are due still
abbrev pub AreNext : List Due → Option DueCall → List Due → Type 0
AreNext old None new = (old ≡ []) × (new ≡ [])
AreNext old (Some call) new = old ≡ due_of call ∷ new

-- the type of main by its arguments: none, or the count of words and their array
abbrev pub main_type : List Scalar → Signature
main_type [] = plain_main
main_type (v ∷ vs) = main_with_arguments

-- at the address is main, with the type that these arguments have
abbrev pub IsMainAt : List Module → ℕ → List Scalar → Type 0
IsMainAt parts address arguments = IsFunctionOf (look parts) (table parts) (main_type arguments) (table parts address)

-- main has the type that it is called with; a constructor may have any
abbrev pub MayBeDue : List Module → DueCall → Type 0
MayBeDue parts (Constructor address) = ⊤
MayBeDue parts (Main address) = IsMainAt parts address []
MayBeDue parts (MainWith address count array) = IsMainAt parts address (Int count ∷ Ptr array ∷ [])

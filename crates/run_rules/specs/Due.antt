-- For `equal_look_ups_give_equal_runs`: the calls that no instruction makes: those of constructors, and of main.
use Rattle.std.specs.Prelude.{ℕ, false, [], ◌∷◌}
use Rattle.ir_eval.specs.declared.value.Scalar.TheVariants.{Int, Ptr}
use Rattle.type_table.specs.Shape.{int_leaf, ptr_leaf, void_leaf}
use Rattle.run_rules.specs.Action.{Signature}
use Rattle.run_rules.specs.Calls.{Callee, called}
use Rattle.run_rules.specs.State.{Due, Constructor, Main, MainWith, Core, Next}

-- void ()
abbrev pub constructor_type : Signature
constructor_type = record { returns = void_leaf; parameters = []; variadic = false }

-- i32 ()
abbrev pub plain_main : Signature
plain_main = record { returns = int_leaf 32; parameters = []; variadic = false }

-- i32 (i32, ptr)
abbrev pub main_with_arguments : Signature
main_with_arguments = record { returns = int_leaf 32; parameters = int_leaf 32 ∷ ptr_leaf ∷ []; variadic = false }

-- the call of what is due. Nothing takes its result
abbrev pub called_due : (ℕ → Callee) → Due → Core → Next
called_due table (Constructor address) c = called (table address) constructor_type [] [] 0 c
called_due table (Main address) c = called (table address) plain_main [] [] 0 c
called_due table (MainWith address count array) c =
    called (table address) main_with_arguments main_with_arguments.parameters (Int count ∷ Ptr array ∷ []) 0 c

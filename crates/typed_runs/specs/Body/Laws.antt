-- For `bodies_are_asked`: that the bodies of a valid module give what typed actions need.
use Rattle.std.specs.Prelude.{◌≡◌, ℕ, Option, Some, slice_get}
use Rattle.std.specs.List.{AllByRecursion}
use Rattle.ir_eval.specs.declared.value.Pointer.{Pointer}
use Rattle.ir_eval.specs.declared.value.Scalar.{Scalar}
use Rattle.ir_memory.specs.declared.leaf.Leaf.TheVariants as leaf
use Rattle.module_arena.specs.Functions.{blocks}
use Rattle.module_arena.specs.Module.{Bytes, Block, Function, Module}
use Rattle.module_arena.specs.Valid.{IsValid}
use Rattle.module_arena.specs.WellFormed.{IsWellFormed}
use Rattle.run_rules.specs.Action.{Action}
use Rattle.run_rules.specs.Constant.{Names}
use Rattle.run_rules.specs.Scope.{FunctionScope, scope_of}
use Rattle.typed_runs.specs.Actions.{Typing}
use Rattle.typed_runs.specs.Kinds.{IsOf}
use Rattle.typed_runs.specs.Look.Typings.{frame_kinds}
use Rattle.typed_runs.specs.Action.Asked.{IsAsked}
use Rattle.typed_runs.specs.Edge.Asked.{IsAskedEnd}

-- each instruction of a block, and its end
pub record IsAskedBlock (t : Typing) (look : ℕ → ℕ → ℕ → Action) (function : ℕ) (sc : FunctionScope) (f : Function) (b : Block) : Type 0 where
  pub instructions : AllByRecursion (IsAsked t look function sc) b.instructions
  pub ending : IsAskedEnd t look function sc f b.ending

-- what the names of a module mean, whatever the addresses and bounds of its globals are
abbrev pub names_with : Module → (Bytes → Scalar) → (Pointer → Option (ℕ × ℕ)) → Names
names_with m address bounds = record { structs = m.structs; address = address; bounds = bounds }

-- each block of each function, where the frame has the kinds of the function's leaves, and the address of a global is a pointer
abbrev pub BodiesAreAsked : Type 0
BodiesAreAsked =
    (m : Module) → IsWellFormed m → IsValid m → (k : ℕ) (f : Function) → slice_get m.functions k ≡ Some f
    → (t : Typing) (look : ℕ → ℕ → ℕ → Action) (function : ℕ) (address : Bytes → Scalar) (bounds : Pointer → Option (ℕ × ℕ))
    → t.kinds function ≡ frame_kinds (names_with m address bounds) f → ((name : Bytes) → IsOf t.fixed leaf.Ptr (address name))
    → AllByRecursion (IsAskedBlock t look function (scope_of (names_with m address bounds) f) f) (blocks f)

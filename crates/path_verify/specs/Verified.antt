-- For `verify` and `verify_counted`: why a module is accepted or refused.
use Rattle.std.specs.Prelude.{◌≡◌, ℕ, ⊤, Some, None, Result, Ok, Err}
use Rattle.std.specs.List.{sum_by}
use Rattle.std.specs.Option.{option_map}
use Rattle.module_arena.specs.EntityView.{entity_view}
use Rattle.module_arena.specs.Functions.{product, first_too_large}
use Rattle.module_arena.specs.Module.{Bytes, Function, Module}
use Rattle.module_arena.specs.Valid.{IsValid, IsFirstFailure}
use Rattle.entry_verify.specs.declared.types.fault.VerifyFault.{VerifyFault}
use Rattle.entry_verify.specs.declared.types.fault.VerifyFault.TheVariants as fault
use Rattle.path_verify.specs.Bodies.{turns_of}

-- what is told of a function that is too large
abbrev pub told_of : Function → Bytes × ℕ
told_of f = (f.name, product f)

-- no function is too large, or the first that is, is told
abbrev pub Sized : {T : Type 0} → Module → Result T VerifyFault → Type 0
Sized m (Ok x) = first_too_large m ≡ None
Sized m (Err fault.Memory) = ⊤
Sized m (Err (fault.FunctionTooLarge name size)) = option_map told_of (first_too_large m) ≡ Some (name, size)
Sized m (Err (fault.Invalid rule entity)) = ⊥

-- a module is accepted where no function is too large and it is valid; else the first function that is, or the first failure, is told
abbrev pub Verifies : {T : Type 0} → Module → Result T VerifyFault → Type 0
Verifies m (Ok x) = (first_too_large m ≡ None) × IsValid m
Verifies m (Err fault.Memory) = ⊤
Verifies m (Err (fault.FunctionTooLarge name size)) = option_map told_of (first_too_large m) ≡ Some (name, size)
Verifies m (Err (fault.Invalid rule entity)) = (first_too_large m ≡ None) × IsFirstFailure m (entity_view entity) rule

-- how often blocks are spread at most
abbrev pub all_turns : Module → ℕ
all_turns m = sum_by turns_of m.functions

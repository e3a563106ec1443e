-- What is no phi suits as one.
use Rattle.std.proofs.Common.{◌≡◌, ℕ, true, false, refl}
use Rattle.std.proofs.lemmas.Bool.{true≢false}
use Rattle.module_arena.specs.InstructionRules.{is_phi_operation}
use Rattle.module_arena.specs.Module.{Block, Function, Operation}
use Rattle.module_arena.specs.Module.Operation.{Alloca, BinaryOperation, Call, Compare, Convert, ExtractValue, Freeze, GetElementPtr, InsertValue, Load, Phi, Select, Store}
use Rattle.module_arena.specs.Valid.{operation_phi_suits}

pub no_phi_suits : (f : Function) (block : Block) (before : ℕ) (o : Operation) → is_phi_operation o ≡ false → operation_phi_suits f block before o ≡ true
no_phi_suits f block before (BinaryOperation opcode flags left right) e = refl
no_phi_suits f block before (Compare flags predicate left right) e = refl
no_phi_suits f block before (Convert opcode flags value to) e = refl
no_phi_suits f block before (Select condition first second) e = refl
no_phi_suits f block before (Freeze value) e = refl
no_phi_suits f block before (Phi ty incoming) e = absurd (true≢false e)
no_phi_suits f block before (Load flags ty address alignment) e = refl
no_phi_suits f block before (Store flags value address alignment) e = refl
no_phi_suits f block before (Alloca ty count alignment) e = refl
no_phi_suits f block before (GetElementPtr flags source base indices) e = refl
no_phi_suits f block before (Call signature callee arguments) e = refl
no_phi_suits f block before (ExtractValue aggregate indices) e = refl
no_phi_suits f block before (InsertValue aggregate value indices) e = refl

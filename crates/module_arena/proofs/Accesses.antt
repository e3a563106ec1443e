-- What an instruction is where it is none of these.
use Rattle.std.proofs.Common.{◌≡◌, ℕ, true, List, Option, refl}
use Rattle.std.proofs.lemmas.Bool.{false≢true}
use Rattle.ir_tables.specs.declared.opcode.Opcode.{Opcode}
use Rattle.ir_tables.specs.declared.predicate.Predicate.{Predicate}
use Rattle.module_arena.specs.declared.instruction.Call.{Call}
use Rattle.module_arena.specs.declared.instruction.Choice.{Choice}
use Rattle.module_arena.specs.declared.instruction.Incoming.{Incoming}
use Rattle.module_arena.specs.declared.instruction.Insertion.{Insertion}
use Rattle.module_arena.specs.declared.instruction.Inst.{Inst}
use Rattle.module_arena.specs.declared.instruction.Inst.TheVariants as inst
use Rattle.module_arena.specs.declared.instruction.Operand.{Operand}
use Rattle.module_arena.specs.declared.instruction.Value.{Value}
use Rattle.module_arena.specs.Accesses.{is_access}

-- one that works on memory or computes an address
pub access_else : (i : Inst) →
    ((opcode : Opcode) (flags result : ℕ) (left : Operand) (right : Value) → i ≡ inst.Binary opcode flags result left right → ⊥) →
    ((flags : ℕ) (predicate : Predicate) (result : ℕ) (left : Operand) (right : Value) → i ≡ inst.Compare flags predicate result left right → ⊥) →
    ((opcode : Opcode) (flags result : ℕ) (operand : Operand) (to : ℕ) → i ≡ inst.Convert opcode flags result operand to → ⊥) →
    ((result : ℕ) (choice : Choice) → i ≡ inst.Select result choice → ⊥) →
    ((result : ℕ) (operand : Operand) → i ≡ inst.Freeze result operand → ⊥) →
    ((result ty : ℕ) (incoming : List Incoming) → i ≡ inst.Phi result ty incoming → ⊥) →
    ((call : Call) → i ≡ inst.Call call → ⊥) →
    ((result : ℕ) (aggregate : Operand) (indices : List ℕ) → i ≡ inst.ExtractValue result aggregate indices → ⊥) →
    ((result : ℕ) (insertion : Insertion) → i ≡ inst.InsertValue result insertion → ⊥) →
    is_access i ≡ true
access_else (inst.Binary opcode flags result left right) other _ _ _ _ _ _ _ _ = absurd (other opcode flags result left right refl)
access_else (inst.Compare flags predicate result left right) _ other _ _ _ _ _ _ _ = absurd (other flags predicate result left right refl)
access_else (inst.Convert opcode flags result operand to) _ _ other _ _ _ _ _ _ = absurd (other opcode flags result operand to refl)
access_else (inst.Select result choice) _ _ _ other _ _ _ _ _ = absurd (other result choice refl)
access_else (inst.Freeze result operand) _ _ _ _ other _ _ _ _ = absurd (other result operand refl)
access_else (inst.Phi result ty incoming) _ _ _ _ _ other _ _ _ = absurd (other result ty incoming refl)
access_else (inst.Call call) _ _ _ _ _ _ other _ _ = absurd (other call refl)
access_else (inst.ExtractValue result aggregate indices) _ _ _ _ _ _ _ other _ = absurd (other result aggregate indices refl)
access_else (inst.InsertValue result insertion) _ _ _ _ _ _ _ _ other = absurd (other result insertion refl)
access_else _ _ _ _ _ _ _ _ _ _ = refl

-- there is no other that does
pub no_other_access : (i : Inst) → is_access i ≡ true →
    ((flags result ty : ℕ) (address : Operand) (alignment : Option ℕ) → i ≡ inst.Load flags result ty address alignment → ⊥) →
    ((flags : ℕ) (stored address : Operand) (alignment : Option ℕ) → i ≡ inst.Store flags stored address alignment → ⊥) →
    ((result ty : ℕ) (count : Option Operand) (alignment : Option ℕ) → i ≡ inst.Alloca result ty count alignment → ⊥) →
    ((flags result source : ℕ) (base : Operand) (indices : List Operand) → i ≡ inst.GetElementPtr flags result source base indices → ⊥) →
    ⊥
no_other_access (inst.Load flags result ty address alignment) is other _ _ _ = other flags result ty address alignment refl
no_other_access (inst.Store flags stored address alignment) is _ other _ _ = other flags stored address alignment refl
no_other_access (inst.Alloca result ty count alignment) is _ _ other _ = other result ty count alignment refl
no_other_access (inst.GetElementPtr flags result source base indices) is _ _ _ other = other flags result source base indices refl
no_other_access _ is _ _ _ _ = absurd (false≢true is)

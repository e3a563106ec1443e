-- What a refused call answers, from what the call that was refused answered.
use Rattle.std.proofs.Common.{◌≡◌, Result, Ok, Err, sym, subst}
use Rattle.std.specs.Prelude.{IfErr}
use Rattle.std.specs.Result.{IsErr, IsErrAnd}
use Rattle.ir_tables.specs.declared.undefined_kind.UndefinedKind.{UndefinedKind}
use Rattle.ir_memory.specs.declared.fault.MemoryFault.{MemoryFault}
use Rattle.ir_memory.specs.declared.fault.MemoryFault.TheVariants.{Undefined, MemoryLimit, Memory}
use Rattle.ir_memory.specs.Answer.{Answers}
use Rattle.ir_memory.specs.Memory.{Blocks}
use Rattle.run_names.specs.Values.Answer.{Stores}

-- what holds of the fault that was told
pub if_fault : {T : Type 0} (r : Result T MemoryFault) (fault : MemoryFault) (Q : MemoryFault → Type 0) → IsErr r → IsErrAnd r (λ t. t ≡ fault) → Q fault → IfErr r Q
if_fault (Ok x) fault Q is gives h = tt
if_fault (Err t) fault Q is gives h = subst Q (sym gives) h

stores_told : (whole one : Result Blocks UndefinedKind) (old now new : Blocks) (fault : MemoryFault) → Answers {T = Unit {0}} one old now (Err fault)
    → ((kind : UndefinedKind) → one ≡ Err kind → whole ≡ Err kind) → Stores {T = Unit {0}} whole new (Err fault)
stores_told whole one old now new (Undefined kind) h more = more kind h.0
stores_told whole one old now new Memory h more = tt
stores_told whole one old now new MemoryLimit h more = h

-- where one store of several was refused
pub stores_refused : (whole one : Result Blocks UndefinedKind) (old now new : Blocks) (r : Result (Unit {0}) MemoryFault) (fault : MemoryFault) → IsErr r → IsErrAnd r (λ t. t ≡ fault)
    → Answers {T = Unit {0}} one old now (Err fault) → ((kind : UndefinedKind) → one ≡ Err kind → whole ≡ Err kind) → Stores {T = Unit {0}} whole new r
stores_refused whole one old now new (Ok x) fault is gives h more = cc
stores_refused whole one old now new (Err t) fault is gives h more =
    subst (λ t. Stores {T = Unit {0}} whole new (Err t)) (sym gives) (stores_told whole one old now new fault h more)

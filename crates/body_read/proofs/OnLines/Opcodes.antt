-- What is read by an opcode that no other form has.
use Rattle.std.proofs.Common.{◌≡◌, true, refl}
use Rattle.ir_tables.specs.declared.opcode.Opcode.{Opcode}
use Rattle.ir_tables.specs.declared.opcode.Opcode.TheVariants as op
use Rattle.record_table.specs.Fields.{Numbering}
use Rattle.body_read.specs.Lines.Operations.{computation, is_giving, operation}

pub computation_is : (k : Numbering) (o : Opcode) → is_giving o ≡ true → (o ≡ op.ICmp → ⊥) → (o ≡ op.Trunc → ⊥) → (o ≡ op.ZExt → ⊥) → (o ≡ op.SExt → ⊥) → (o ≡ op.PtrToInt → ⊥) → (o ≡ op.IntToPtr → ⊥) → (o ≡ op.Select → ⊥) → (o ≡ op.Freeze → ⊥) → (o ≡ op.Phi → ⊥) → (o ≡ op.Load → ⊥) → (o ≡ op.Alloca → ⊥) → (o ≡ op.GetElementPtr → ⊥) → (o ≡ op.ExtractValue → ⊥) → (o ≡ op.InsertValue → ⊥) → computation k o ≡ operation k o
computation_is k op.ICmp gives other _ _ _ _ _ _ _ _ _ _ _ _ _ = absurd (other refl)
computation_is k op.Trunc gives _ other _ _ _ _ _ _ _ _ _ _ _ _ = absurd (other refl)
computation_is k op.ZExt gives _ _ other _ _ _ _ _ _ _ _ _ _ _ = absurd (other refl)
computation_is k op.SExt gives _ _ _ other _ _ _ _ _ _ _ _ _ _ = absurd (other refl)
computation_is k op.PtrToInt gives _ _ _ _ other _ _ _ _ _ _ _ _ _ = absurd (other refl)
computation_is k op.IntToPtr gives _ _ _ _ _ other _ _ _ _ _ _ _ _ = absurd (other refl)
computation_is k op.Select gives _ _ _ _ _ _ other _ _ _ _ _ _ _ = absurd (other refl)
computation_is k op.Freeze gives _ _ _ _ _ _ _ other _ _ _ _ _ _ = absurd (other refl)
computation_is k op.Phi gives _ _ _ _ _ _ _ _ other _ _ _ _ _ = absurd (other refl)
computation_is k op.Load gives _ _ _ _ _ _ _ _ _ other _ _ _ _ = absurd (other refl)
computation_is k op.Alloca gives _ _ _ _ _ _ _ _ _ _ other _ _ _ = absurd (other refl)
computation_is k op.GetElementPtr gives _ _ _ _ _ _ _ _ _ _ _ other _ _ = absurd (other refl)
computation_is k op.ExtractValue gives _ _ _ _ _ _ _ _ _ _ _ _ other _ = absurd (other refl)
computation_is k op.InsertValue gives _ _ _ _ _ _ _ _ _ _ _ _ _ other = absurd (other refl)
computation_is k op.Store gives _ _ _ _ _ _ _ _ _ _ _ _ _ _ = absurd (cc)
computation_is k op.Call gives _ _ _ _ _ _ _ _ _ _ _ _ _ _ = absurd (cc)
computation_is k op.Ret gives _ _ _ _ _ _ _ _ _ _ _ _ _ _ = absurd (cc)
computation_is k op.Br gives _ _ _ _ _ _ _ _ _ _ _ _ _ _ = absurd (cc)
computation_is k op.Switch gives _ _ _ _ _ _ _ _ _ _ _ _ _ _ = absurd (cc)
computation_is k op.Unreachable gives _ _ _ _ _ _ _ _ _ _ _ _ _ _ = absurd (cc)
computation_is k _ gives _ _ _ _ _ _ _ _ _ _ _ _ _ _ = refl

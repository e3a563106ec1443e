-- What holds of an instruction by its phrase, and of an answer.
use Rattle.std.proofs.Common.{◌≡◌, ℕ, Option, sym, subst}
use Rattle.module_arena.specs.declared.instruction.Inst.{Inst}
use Rattle.module_arena.specs.declared.instruction.Inst.TheVariants as inst
use Rattle.module_arena.specs.declared.instruction.Operand.{Operand}

-- of a `load` and a `store`, whatever their flags
pub by_load : (P : Inst → Type 0) (i : Inst) (flags to ty : ℕ) (address : Operand) (alignment : Option ℕ) → i ≡ inst.Load flags to ty address alignment → ((any : ℕ) → P (inst.Load any to ty address alignment)) → P i
by_load P i flags to ty address alignment is h = subst P (sym is) (h flags)

pub by_store : (P : Inst → Type 0) (i : Inst) (flags : ℕ) (stored address : Operand) (alignment : Option ℕ) → i ≡ inst.Store flags stored address alignment → ((any : ℕ) → P (inst.Store any stored address alignment)) → P i
by_store P i flags stored address alignment is h = subst P (sym is) (h flags)

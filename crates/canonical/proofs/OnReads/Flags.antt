-- Flags that are well formed can be written.
use Rattle.std.specs.Prelude.{◌≡◌, refl, ℕ, Bool, true, not, ◌||◌, nat_lt, filter}
use Rattle.std.specs.List.{list_all}
use Rattle.std.proofs.Common.{sym, ◌∙◌}
use Rattle.std.proofs.lemmas.Bool.{and_parts, ltb-true, agree_below, agree_below_at}
use Rattle.ir_tables.specs.Flag.{flags}
use Rattle.ir_tables.specs.Flags.{has_flag}
use Rattle.ir_tables.specs.declared.flag.Flag.{Flag}
use Rattle.ir_tables.specs.declared.opcode.Opcode.{Opcode}
use Rattle.ir_tables.specs.declared.opcode.Opcode.TheVariants as op
use Rattle.ir_terminals.specs.PhraseRows.Row.{among}
use Rattle.ir_tables.specs.MayHave.{may_have}
use Rattle.module_arena.specs.Forms.{are_flags_of}
use Rattle.canonical.specs.Law.Written.{sums, IsFlagSet}

-- no flag but those that the opcode may have
abbrev has_few : Opcode → ℕ → Bool
has_few opcode set = list_all (λ (f : Flag). not (has_flag set f) || may_have opcode f) flags

abbrev is_sum : Opcode → ℕ → Bool
is_sum opcode set = among set (sums (filter (may_have opcode) flags))

agree : (opcode : Opcode) → agree_below (has_few opcode) (is_sum opcode) 512 ≡ true
unfolding may_have
agree op.Add = refl
agree op.Sub = refl
agree op.Mul = refl
agree op.UDiv = refl
agree op.SDiv = refl
agree op.URem = refl
agree op.SRem = refl
agree op.Shl = refl
agree op.LShr = refl
agree op.AShr = refl
agree op.And = refl
agree op.Or = refl
agree op.Xor = refl
agree op.ICmp = refl
agree op.Trunc = refl
agree op.ZExt = refl
agree op.SExt = refl
agree op.PtrToInt = refl
agree op.IntToPtr = refl
agree op.Select = refl
agree op.Freeze = refl
agree op.Phi = refl
agree op.Load = refl
agree op.Store = refl
agree op.Alloca = refl
agree op.GetElementPtr = refl
agree op.Call = refl
agree op.ExtractValue = refl
agree op.InsertValue = refl
agree op.Ret = refl
agree op.Br = refl
agree op.Switch = refl
agree op.Unreachable = refl

pub flag_set : (opcode : Opcode) (set : ℕ) → are_flags_of opcode set ≡ true → IsFlagSet opcode set
flag_set opcode set h =
    let p = and_parts (nat_lt set 512) (has_few opcode set) h in
    sym (agree_below_at (has_few opcode) (is_sum opcode) 512 set (agree opcode) (ltb-true set 512 p.0)) ∙ p.1

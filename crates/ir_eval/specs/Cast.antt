-- For `cast`: the casts (LangRef, "trunc .. to Instruction", "zext .. to Instruction", "sext .. to Instruction",
-- "ptrtoint .. to Instruction", "inttoptr .. to Instruction").
use Rattle.std.specs.Prelude.{ℕ, ◌%◌, ◌^◌, ◌<◌, ◌≡◌, pos, ◌&&◌, None, ⊤, if◌then◌else◌}
use Rattle.ir_tables.specs.declared.opcode.Opcode.{Opcode}
use Rattle.ir_tables.specs.declared.opcode.Opcode.TheVariants.{Trunc, ZExt, SExt, PtrToInt, IntToPtr}
use Rattle.ir_tables.specs.declared.flag.Flag.TheVariants.{Nneg}
use Rattle.ir_tables.specs.Flags.{has_flag}
use Rattle.ir_eval.specs.Value.{signed, reduced, has_sign, IsInteger, IsPointer, HasNoBlock}
use Rattle.ir_eval.specs.Arithmetic.{arithmetic}
use Rattle.ir_eval.specs.declared.value.Pointer.{Pointer}
use Rattle.ir_eval.specs.declared.value.Scalar.{Scalar}
use Rattle.ir_eval.specs.declared.value.Scalar.TheVariants.{Int, Ptr, Poison}

-- the low bits; `nuw` and `nsw` ask that nothing is lost without and with sign
abbrev pub truncated_of : ℕ → ℕ → ℕ → ℕ → Scalar
truncated_of flags from to number = arithmetic flags to (pos number) (signed from number)

-- the number itself; `nneg` asks that it has no sign
abbrev pub zero_extended_of : ℕ → ℕ → ℕ → Scalar
zero_extended_of flags from number = if has_flag flags Nneg && has_sign from number then Poison else Int number

-- the same number with its sign
abbrev pub sign_extended_of : ℕ → ℕ → ℕ → Scalar
sign_extended_of from to number = Int (reduced to (signed from number))

-- an address cut or extended with zeros, and an address that came from no block
abbrev pub address_of : ℕ → Pointer → Scalar
address_of to pointer = Int (pointer.address % 2 ^ to)

-- a pointer of no block
abbrev pub pointer_at : ℕ → Pointer
pointer_at address = record { block = None; address = address }

-- `inttoptr`: the number's lowest 64 bits as an address, of no block
abbrev pub pointer_of : ℕ → Scalar
pointer_of number = Ptr (pointer_at (number % 2 ^ 64))

-- a cast by its opcode; poison stays poison
unfoldable pub cast_of : Opcode → ℕ → ℕ → ℕ → Scalar → Scalar
cast_of Trunc flags from to (Int number) = truncated_of flags from to number
cast_of ZExt flags from to (Int number) = zero_extended_of flags from number
cast_of SExt flags from to (Int number) = sign_extended_of from to number
cast_of PtrToInt flags from to (Ptr pointer) = address_of to pointer
cast_of IntToPtr flags from to (Int number) = pointer_of number
cast_of _ _ _ _ _ = Poison

-- the casts with the widths that they go between; the width of a pointer is written 64
abbrev pub IsCast : Opcode → ℕ → ℕ → Scalar → Type 0
IsCast Trunc from to operand = (to < from) × IsInteger from operand
IsCast ZExt from to operand = (from < to) × IsInteger from operand
IsCast SExt from to operand = (from < to) × IsInteger from operand
IsCast PtrToInt from to operand = (from ≡ 64) × IsPointer operand
IsCast IntToPtr from to operand = (to ≡ 64) × IsInteger from operand
IsCast _ _ _ _ = ⊥

-- what a cast gives: an integer of the width, or a pointer
abbrev pub IsCastTo : Opcode → ℕ → Scalar → Type 0
IsCastTo IntToPtr to result = IsPointer result
IsCastTo _ to result = IsInteger to result

-- an address that was an integer belongs to no block
abbrev pub IsFreeOfBlocks : Opcode → Scalar → Type 0
IsFreeOfBlocks IntToPtr result = HasNoBlock result
IsFreeOfBlocks _ result = ⊤

-- For `binary` of `ir_eval`, `read_items` of `ir_syntax` and `Checked::seal` of `module_arena`: the opcodes that one phrase
-- has (LangRef, "Binary Operations", "Bitwise Binary Operations", "Conversion Operations").
use Rattle.std.specs.Prelude.{Bool, true, false}
use Rattle.ir_tables.specs.declared.opcode.Opcode.{Opcode}
use Rattle.ir_tables.specs.declared.opcode.Opcode.TheVariants as op

-- the operations on two operands of one type that give that type
abbrev pub is_binary : Opcode → Bool
is_binary op.Add = true
is_binary op.Sub = true
is_binary op.Mul = true
is_binary op.UDiv = true
is_binary op.SDiv = true
is_binary op.URem = true
is_binary op.SRem = true
is_binary op.Shl = true
is_binary op.LShr = true
is_binary op.AShr = true
is_binary op.And = true
is_binary op.Or = true
is_binary op.Xor = true
is_binary _ = false

-- the casts
abbrev pub is_cast : Opcode → Bool
is_cast op.Trunc = true
is_cast op.ZExt = true
is_cast op.SExt = true
is_cast op.PtrToInt = true
is_cast op.IntToPtr = true
is_cast _ = false

-- the operations that a constant expression may have
abbrev pub is_constant_binary : Opcode → Bool
is_constant_binary op.Add = true
is_constant_binary op.Sub = true
is_constant_binary op.Xor = true
is_constant_binary _ = false

-- the casts that a constant expression may have
abbrev pub is_constant_cast : Opcode → Bool
is_constant_cast op.Trunc = true
is_constant_cast op.PtrToInt = true
is_constant_cast op.IntToPtr = true
is_constant_cast _ = false

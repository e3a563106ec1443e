-- Every value of `Opcode` stands in the list of its table, which is looked up by its words and by its codes.
use Rattle.std.proofs.Common.{refl, bytes_eq, nat_eq}
use Rattle.ir_tables.specs.declared.opcode.Opcode.TheVariants.{Add, Sub, Mul, UDiv, SDiv, URem, SRem, Shl, LShr, AShr, And, Or, Xor, ICmp, Trunc, ZExt, SExt, PtrToInt, IntToPtr, Select, Freeze, Phi, Load, Store, Alloca, GetElementPtr, Call, ExtractValue, InsertValue, Ret, Br, Switch, Unreachable}
use Rattle.ir_tables.specs.Opcode.{opcode_word, opcode_code, opcodes}
use Rattle.ir_tables.proofs.Tables.{IsListed, IsKeyed, keyed_by_word, keyed_by_code}

pub opcode_listed : IsListed opcodes
opcode_listed Add = (0, refl)
opcode_listed Sub = (1, refl)
opcode_listed Mul = (2, refl)
opcode_listed UDiv = (3, refl)
opcode_listed SDiv = (4, refl)
opcode_listed URem = (5, refl)
opcode_listed SRem = (6, refl)
opcode_listed Shl = (7, refl)
opcode_listed LShr = (8, refl)
opcode_listed AShr = (9, refl)
opcode_listed And = (10, refl)
opcode_listed Or = (11, refl)
opcode_listed Xor = (12, refl)
opcode_listed ICmp = (13, refl)
opcode_listed Trunc = (14, refl)
opcode_listed ZExt = (15, refl)
opcode_listed SExt = (16, refl)
opcode_listed PtrToInt = (17, refl)
opcode_listed IntToPtr = (18, refl)
opcode_listed Select = (19, refl)
opcode_listed Freeze = (20, refl)
opcode_listed Phi = (21, refl)
opcode_listed Load = (22, refl)
opcode_listed Store = (23, refl)
opcode_listed Alloca = (24, refl)
opcode_listed GetElementPtr = (25, refl)
opcode_listed Call = (26, refl)
opcode_listed ExtractValue = (27, refl)
opcode_listed InsertValue = (28, refl)
opcode_listed Ret = (29, refl)
opcode_listed Br = (30, refl)
opcode_listed Switch = (31, refl)
opcode_listed Unreachable = (32, refl)

pub opcode_words : IsKeyed bytes_eq opcode_word opcodes
opcode_words = keyed_by_word opcode_word opcodes opcode_listed

pub opcode_codes : IsKeyed nat_eq opcode_code opcodes
opcode_codes = keyed_by_code opcode_code opcodes opcode_listed

-- For `binary`, `select` and `freeze`: the instructions over integers and pointers (LangRef, "Binary Operations",
-- "Bitwise Binary Operations", "select Instruction", "freeze Instruction", "Poison Values").
use Rattle.std.specs.Prelude.{ℕ, zero, suc, Bool, true, false, ◌&&◌, ◌==◌, Result, Ok, Err, if◌then◌else◌}
use Rattle.ir_tables.specs.declared.opcode.Opcode.{Opcode}
use Rattle.ir_tables.specs.declared.opcode.Opcode.TheVariants.{Add, Sub, Mul, UDiv, SDiv, URem, SRem, Shl, LShr, AShr, And, Or, Xor}
pub use Rattle.ir_tables.specs.OpcodeGroups.{is_binary}
use Rattle.ir_tables.specs.declared.undefined_kind.UndefinedKind.{UndefinedKind}
use Rattle.ir_tables.specs.declared.undefined_kind.UndefinedKind.TheVariants.{DivisionByZero}
use Rattle.ir_eval.specs.Arithmetic.{sum_of, difference_of, product_of}
use Rattle.ir_eval.specs.Division.{quotient_of, signed_quotient_of, remainder_of, signed_remainder_of}
use Rattle.ir_eval.specs.Shift.{shifted_left_of, shifted_right_of, signed_shifted_right_of}
use Rattle.ir_eval.specs.Bitwise.{conjunction_of, disjunction_of, exclusive_of}
use Rattle.ir_eval.specs.Cast.{pointer_at}
use Rattle.ir_eval.specs.declared.value.Scalar.{Scalar}
use Rattle.ir_eval.specs.declared.value.Scalar.TheVariants.{Int, Ptr, Poison}

-- the instructions whose divisor must not be zero
abbrev pub is_division : Opcode → Bool
is_division UDiv = true
is_division SDiv = true
is_division URem = true
is_division SRem = true
is_division _ = false

-- zero or poison
abbrev pub is_no_divisor : Scalar → Bool
is_no_divisor (Int number) = number == 0
is_no_divisor (Ptr pointer) = false
is_no_divisor Poison = true

-- the instruction on two integers, of which the second is no zero divisor
abbrev pub integers : Opcode → ℕ → ℕ → ℕ → ℕ → Result Scalar UndefinedKind
integers Add flags width a b = Ok (sum_of flags width a b)
integers Sub flags width a b = Ok (difference_of flags width a b)
integers Mul flags width a b = Ok (product_of flags width a b)
integers UDiv flags width a b = Ok (quotient_of flags a b)
integers SDiv flags width a b = signed_quotient_of flags width a b
integers URem flags width a b = Ok (remainder_of a b)
integers SRem flags width a b = signed_remainder_of width a b
integers Shl flags width a b = Ok (shifted_left_of flags width a b)
integers LShr flags width a b = Ok (shifted_right_of flags width a b)
integers AShr flags width a b = Ok (signed_shifted_right_of flags width a b)
integers And flags width a b = Ok (conjunction_of a b)
integers Or flags width a b = Ok (disjunction_of flags a b)
integers Xor flags width a b = Ok (exclusive_of a b)
integers _ flags width a b = Ok Poison

-- a poison operand gives poison
abbrev pub operands : Opcode → ℕ → ℕ → Scalar → Scalar → Result Scalar UndefinedKind
operands op flags width (Int a) (Int b) = integers op flags width a b
operands op flags width _ _ = Ok Poison

-- a division by zero or by poison is undefined
unfoldable pub binary_of : Opcode → ℕ → ℕ → Scalar → Scalar → Result Scalar UndefinedKind
binary_of op flags width a b = if is_division op && is_no_divisor b then Err DivisionByZero else operands op flags width a b

-- the arm that the condition chooses; poison chooses none
abbrev pub select_of : Scalar → Scalar → Scalar → Scalar
select_of (Int zero) a b = b
select_of (Int (suc more)) a b = a
select_of _ a b = Poison

-- zero in the place of poison, where any value is allowed
abbrev pub freeze_of : Bool → Scalar → Scalar
freeze_of true Poison = Ptr (pointer_at 0)
freeze_of false Poison = Int 0
freeze_of pointer (Int number) = Int number
freeze_of pointer (Ptr at) = Ptr at

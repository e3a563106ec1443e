-- What each instruction gives is an integer of its width, a pointer where it gives a pointer, or poison.
use Rattle.std.proofs.Common.{ℕ, ◌/◌, ◌%◌, ◌^◌, ◌<◌, Bool, true, false, not, ◌&&◌, cond, nat_eq, ℤ, pos, negsuc, ◌+ℤ◌, ◌-ℤ◌, ◌*ℤ◌, Option, Some, None, Result, Ok, Err, arith, lit<}
use Rattle.std.specs.Prelude.{refl, zero, suc, IfOk, int_div, int_rem, nat_le, bit_and, bit_or}
use Rattle.std.specs.Bool.{beq}
use Rattle.std.specs.Int.{int_div_euclid}
use Rattle.std.specs.Ordering.{int_eq}
use Rattle.std.proofs.lemmas.Nat.{pow_pos, pow_below, mod_below, and_le_l, or_lt, xor_lt, shr_le}
use Rattle.std.proofs.Math.Nat.{div-le_self, mod-le}
use Rattle.ir_tables.specs.declared.opcode.Opcode.{Opcode}
use Rattle.ir_tables.specs.declared.opcode.Opcode.TheVariants.{Add, Sub, Mul, UDiv, SDiv, URem, SRem, Shl, LShr, AShr, And, Or, Xor, Trunc, ZExt, SExt, PtrToInt, IntToPtr}
use Rattle.ir_tables.specs.declared.predicate.Predicate.{Predicate}
use Rattle.ir_tables.specs.declared.undefined_kind.UndefinedKind.{UndefinedKind}
use Rattle.ir_tables.specs.declared.undefined_kind.UndefinedKind.TheVariants.{DivisionByZero, DivisionOverflow}
use Rattle.ir_tables.specs.declared.flag.Flag.TheVariants.{Nuw, Nsw, Exact, Disjoint, Nneg}
use Rattle.ir_tables.specs.Flags.{has_flag}
use Rattle.ir_eval.specs.Value.{IsInteger, IsLeaf, IsDefined, signed, reduced, fits_unsigned, fits_signed, has_sign}
use Rattle.ir_eval.specs.Arithmetic.{arithmetic}
use Rattle.ir_eval.specs.Division.{quotient_of, signed_quotient_of, signed_remainder_of}
use Rattle.ir_eval.specs.Shift.{shifted_left_of, shifted_right_of, signed_shifted_right_of}
use Rattle.ir_eval.specs.Bitwise.{disjunction_of}
use Rattle.ir_eval.specs.Compare.{truth, holds, number_of, compared, compare_of}
use Rattle.ir_eval.specs.Cast.{cast_of, IsCast, IsCastTo, IsFreeOfBlocks}
use Rattle.ir_eval.specs.Operators.{integers, operands, binary_of, is_division, is_no_divisor, select_of, freeze_of}
use Rattle.ir_eval.specs.declared.value.Scalar.{Scalar}
use Rattle.ir_eval.specs.declared.value.Scalar.TheVariants.{Int, Ptr, Poison}

pub reduced_below : (width : ℕ) (whole : ℤ) → reduced width whole < 2 ^ width
reduced_below width (pos n) = mod_below n (2 ^ width) (pow_pos width)
reduced_below width (negsuc n) = let p = pow_pos width in omega arith

poison_or : (width : ℕ) (test : Bool) (x : Scalar) → IsInteger width x → IsInteger width (cond test Poison x)
poison_or width true x in_x = tt
poison_or width false x in_x = in_x

undefined_or : (width : ℕ) (test : Bool) (kind : UndefinedKind) (x : Result Scalar UndefinedKind) → IfOk x (IsInteger width) → IfOk (cond test (Err kind) x) (IsInteger width)
undefined_or width true kind x in_x = tt
undefined_or width false kind x in_x = in_x

ok_poison_or : (width : ℕ) (test : Bool) (x : Scalar) → IsInteger width x → IfOk {E = UndefinedKind} (cond test (Ok Poison) (Ok x)) (IsInteger width)
ok_poison_or width true x in_x = tt
ok_poison_or width false x in_x = in_x

arithmetic_kind : (flags width : ℕ) (u s : ℤ) → IsInteger width (arithmetic flags width u s)
unfolding arithmetic
arithmetic_kind flags width u s =
    poison_or width (has_flag flags Nuw && not (fits_unsigned width u)) (cond (has_flag flags Nsw && not (fits_signed width s)) Poison (Int (reduced width u)))
    (poison_or width (has_flag flags Nsw && not (fits_signed width s)) (Int (reduced width u)) (reduced_below width u))

quotient_kind : (flags width a b : ℕ) → a < 2 ^ width → IsInteger width (quotient_of flags a b)
quotient_kind flags width a b in_a = poison_or width (has_flag flags Exact && not (nat_eq (a % b) 0)) (Int (a / b)) (let small = div-le_self a b in omega arith)

signed_quotient_kind : (flags width a b : ℕ) → IfOk (signed_quotient_of flags width a b) (IsInteger width)
signed_quotient_kind flags width a b =
    let quotient = int_div (signed width a) (signed width b) in
    let lost = has_flag flags Exact && not (int_eq (int_rem (signed width a) (signed width b)) (pos 0)) in
    undefined_or width (not (fits_signed width quotient)) DivisionOverflow (cond lost (Ok Poison) (Ok (Int (reduced width quotient))))
    (ok_poison_or width lost (Int (reduced width quotient)) (reduced_below width quotient))

signed_remainder_kind : (width a b : ℕ) → IfOk (signed_remainder_of width a b) (IsInteger width)
signed_remainder_kind width a b =
    undefined_or width (not (fits_signed width (int_div (signed width a) (signed width b)))) DivisionOverflow (Ok (Int (reduced width (int_rem (signed width a) (signed width b))))) (reduced_below width (int_rem (signed width a) (signed width b)))

shifted_left_kind : (flags width a b : ℕ) → IsInteger width (shifted_left_of flags width a b)
shifted_left_kind flags width a b =
    let u = pos a *ℤ pos (2 ^ b) in
    let s = signed width a *ℤ pos (2 ^ b) in
    poison_or width (nat_le width b) (arithmetic flags width u s) (arithmetic_kind flags width u s)

shifted_right_kind : (flags width a b : ℕ) → a < 2 ^ width → IsInteger width (shifted_right_of flags width a b)
shifted_right_kind flags width a b in_a =
    let lost = has_flag flags Exact && not (nat_eq (a % 2 ^ b) 0) in
    poison_or width (nat_le width b) (cond lost Poison (Int (a / 2 ^ b))) (poison_or width lost (Int (a / 2 ^ b)) (let small = shr_le a b in omega arith))

signed_shifted_right_kind : (flags width a b : ℕ) → IsInteger width (signed_shifted_right_of flags width a b)
signed_shifted_right_kind flags width a b =
    let lost = has_flag flags Exact && not (nat_eq (a % 2 ^ b) 0) in
    let quotient = int_div_euclid (signed width a) (pos (2 ^ b)) in
    poison_or width (nat_le width b) (cond lost Poison (Int (reduced width quotient))) (poison_or width lost (Int (reduced width quotient)) (reduced_below width quotient))

disjunction_kind : (flags width a b : ℕ) → a < 2 ^ width → b < 2 ^ width → IsInteger width (disjunction_of flags a b)
disjunction_kind flags width a b in_a in_b = poison_or width (has_flag flags Disjoint && not (nat_eq (bit_and a b) 0)) (Int (bit_or a b)) (or_lt width a b in_a in_b)

pub integers_kind : (op : Opcode) (flags width a b : ℕ) → a < 2 ^ width → b < 2 ^ width → IfOk (integers op flags width a b) (IsInteger width)
integers_kind Add flags width a b in_a in_b = arithmetic_kind flags width (pos a +ℤ pos b) (signed width a +ℤ signed width b)
integers_kind Sub flags width a b in_a in_b = arithmetic_kind flags width (pos a -ℤ pos b) (signed width a -ℤ signed width b)
integers_kind Mul flags width a b in_a in_b = arithmetic_kind flags width (pos a *ℤ pos b) (signed width a *ℤ signed width b)
integers_kind UDiv flags width a b in_a in_b = quotient_kind flags width a b in_a
integers_kind SDiv flags width a b in_a in_b = signed_quotient_kind flags width a b
integers_kind URem flags width a b in_a in_b = let small = mod-le a b in omega arith
integers_kind SRem flags width a b in_a in_b = signed_remainder_kind width a b
integers_kind Shl flags width a b in_a in_b = shifted_left_kind flags width a b
integers_kind LShr flags width a b in_a in_b = shifted_right_kind flags width a b in_a
integers_kind AShr flags width a b in_a in_b = signed_shifted_right_kind flags width a b
integers_kind And flags width a b in_a in_b = let small = and_le_l a b in omega arith
integers_kind Or flags width a b in_a in_b = disjunction_kind flags width a b in_a in_b
integers_kind Xor flags width a b in_a in_b = xor_lt width a b in_a in_b
integers_kind _ flags width a b in_a in_b = tt

operands_kind : (op : Opcode) (flags width : ℕ) (a b : Scalar) → IsInteger width a → IsInteger width b → IfOk (operands op flags width a b) (IsInteger width)
operands_kind op flags width (Int a) (Int b) in_a in_b = integers_kind op flags width a b in_a in_b
operands_kind op flags width (Int a) (Ptr b) in_a in_b = tt
operands_kind op flags width (Int a) Poison in_a in_b = tt
operands_kind op flags width (Ptr a) b in_a in_b = tt
operands_kind op flags width Poison b in_a in_b = tt

pub binary_kind : (op : Opcode) (flags width : ℕ) (a b : Scalar) → IsInteger width a → IsInteger width b → IfOk (binary_of op flags width a b) (IsInteger width)
unfolding binary_of
binary_kind op flags width a b in_a in_b = undefined_or width (is_division op && is_no_divisor b) DivisionByZero (operands op flags width a b) (operands_kind op flags width a b in_a in_b)

pub truth_kind : (holding : Bool) → IsInteger 1 (truth holding)
truth_kind true = lit< tt
truth_kind false = lit< tt

compared_kind : (predicate : Predicate) (samesign : Bool) (width : ℕ) (a b : Option ℕ) → IsInteger 1 (compared predicate samesign width a b)
compared_kind predicate samesign width (Some a) (Some b) = poison_or 1 (samesign && not (beq (has_sign width a) (has_sign width b))) (truth (holds predicate width a b)) (truth_kind (holds predicate width a b))
compared_kind predicate samesign width (Some a) None = tt
compared_kind predicate samesign width None b = tt

pub compare_kind : (predicate : Predicate) (samesign : Bool) (width : ℕ) (a b : Scalar) → IsInteger 1 (compare_of predicate samesign width a b)
compare_kind predicate samesign width a b = compared_kind predicate samesign width (number_of a) (number_of b)

pub cast_kind : (op : Opcode) (flags from to : ℕ) (operand : Scalar) → IsCast op from to operand → IsCastTo op to (cast_of op flags from to operand)
unfolding cast_of
cast_kind Trunc flags from to (Int number) is = arithmetic_kind flags to (pos number) (signed from number)
cast_kind Trunc flags from to (Ptr pointer) is = tt
cast_kind Trunc flags from to Poison is = tt
cast_kind ZExt flags from to (Int number) is = poison_or to (has_flag flags Nneg && has_sign from number) (Int number) (let wider = pow_below from to is.0 in let small = is.1 in omega arith)
cast_kind ZExt flags from to (Ptr pointer) is = tt
cast_kind ZExt flags from to Poison is = tt
cast_kind SExt flags from to (Int number) is = reduced_below to (signed from number)
cast_kind SExt flags from to (Ptr pointer) is = tt
cast_kind SExt flags from to Poison is = tt
cast_kind PtrToInt flags from to (Int number) is = tt
cast_kind PtrToInt flags from to (Ptr pointer) is = mod_below pointer.address (2 ^ to) (pow_pos to)
cast_kind PtrToInt flags from to Poison is = tt
cast_kind IntToPtr flags from to (Int number) is = tt
cast_kind IntToPtr flags from to (Ptr pointer) is = tt
cast_kind IntToPtr flags from to Poison is = tt
cast_kind _ flags from to operand is = absurd is

pub cast_block : (op : Opcode) (flags from to : ℕ) (operand : Scalar) → IsFreeOfBlocks op (cast_of op flags from to operand)
unfolding cast_of
cast_block IntToPtr flags from to (Int number) = refl
cast_block IntToPtr flags from to (Ptr pointer) = tt
cast_block IntToPtr flags from to Poison = tt
cast_block _ flags from to operand = tt

pub select_kind : (condition a b : Scalar) (pointer : Bool) (width : ℕ) → IsLeaf pointer width a → IsLeaf pointer width b → IsLeaf pointer width (select_of condition a b)
select_kind (Int zero) a b pointer width is_a is_b = is_b
select_kind (Int (suc more)) a b pointer width is_a is_b = is_a
select_kind (Ptr at) a b true width is_a is_b = tt
select_kind (Ptr at) a b false width is_a is_b = tt
select_kind Poison a b true width is_a is_b = tt
select_kind Poison a b false width is_a is_b = tt

pub freeze_kind : (pointer : Bool) (operand : Scalar) (width : ℕ) → IsLeaf pointer width operand → IsLeaf pointer width (freeze_of pointer operand)
freeze_kind true (Int number) width is = is
freeze_kind true (Ptr at) width is = is
freeze_kind true Poison width is = tt
freeze_kind false (Int number) width is = is
freeze_kind false (Ptr at) width is = is
freeze_kind false Poison width is = pow_pos width

pub freeze_defined : (pointer : Bool) (operand : Scalar) → IsDefined (freeze_of pointer operand)
freeze_defined true (Int number) = tt
freeze_defined true (Ptr at) = tt
freeze_defined true Poison = tt
freeze_defined false (Int number) = tt
freeze_defined false (Ptr at) = tt
freeze_defined false Poison = tt

-- Each result is of its kind.
use Rattle.std.proofs.Common.{◌≡◌, ℕ, zero, suc, ◌+◌, ◌-◌, ◌*◌, ◌/◌, ◌%◌, ◌^◌, ◌<◌, Bool, true, false, not, ◌&&◌, cond, nat_eq, pos, ◌+ℤ◌, ◌-ℤ◌, ◌*ℤ◌, Some, None, arith, lit<}
use Rattle.std.specs.Prelude.{int_le, unsigned_abs}
use Rattle.std.specs.Int.{saturate_to_bits}
use lib.Count.{count_leading_zeros, count_trailing_zeros}
use Rattle.std.proofs.Math.Nat.{pow-succ'}
use Rattle.std.proofs.lemmas.Nat.{pow_pos, ones-le, leading_le, trailing_le, mod_below, shr_below}
use Rattle.ir_tables.specs.declared.intrinsic.Intrinsic.{Intrinsic}
use Rattle.ir_tables.specs.declared.intrinsic.Intrinsic.TheVariants.{Ctpop, Bswap, Bitreverse, Ctlz, Cttz, Abs, Smin, Smax, Umin, Umax, SaddSat, UaddSat, SsubSat, UsubSat, SaddWithOverflow, UaddWithOverflow, SsubWithOverflow, UsubWithOverflow, SmulWithOverflow, UmulWithOverflow, Fshl, Fshr}
use Rattle.ir_eval.specs.Value.{IsWidth, IsInteger, signed, reduced, fits_signed, fits_unsigned}
use Rattle.ir_eval.specs.declared.value.Scalar.{Scalar}
use Rattle.ir_eval.specs.declared.value.Scalar.TheVariants.{Int, Ptr, Poison}
use Rattle.ir_eval.proofs.Ranges.{reduced_below, truth_kind}
use Rattle.ir_eval.proofs.Words.{bounds}
use Rattle.ir_intrinsics.specs.Operands.{IsOperand, second_width}
use Rattle.ir_intrinsics.specs.Results.{numbers, apply_of, poisoned, has_second, joined_of}
use Rattle.ir_intrinsics.specs.Kinds.{IsOutcome, IsSecond}
use Rattle.ir_intrinsics.proofs.Digits.{reversed_below, bytes_within}

below_power : (n : ℕ) → n < 2 ^ n
below_power zero = lit< tt
below_power (suc n) = let p = pow-succ' 2 n in let h = below_power n in omega (arith, p, h)

unless_poison : (width : ℕ) (poison : Bool) (number : ℕ) → number < 2 ^ width → IsInteger width (cond poison Poison (Int number))
unless_poison width true number below = tt
unless_poison width false number below = below

either : (width a b : ℕ) (test : Bool) → a < 2 ^ width → b < 2 ^ width → cond test a b < 2 ^ width
either width a b true is_a is_b = is_a
either width a b false is_a is_b = is_b

pub numbers_kind : (which : Intrinsic) (width a b c : ℕ) → IsWidth width → a < 2 ^ width → b < 2 ^ width → IsOutcome which width (numbers which width a b c)
numbers_kind Ctpop width a b c w is_a is_b = record { first = let few = ones-le width a is_a in let p = below_power width in omega (arith, few, p); second = tt }
numbers_kind Bswap width a b c w is_a is_b = record { first = let few = reversed_below 256 (width / 8) a (lit< tt) in let p = bytes_within width in omega (arith, few, p); second = tt }
numbers_kind Bitreverse width a b c w is_a is_b = record { first = reversed_below 2 width a (lit< tt); second = tt }
numbers_kind Ctlz width a b c w is_a is_b = record { first = unless_poison width (nat_eq a 0 && nat_eq b 1) (count_leading_zeros width a) (let few = leading_le width a in let p = below_power width in omega (arith, few, p)); second = tt }
numbers_kind Cttz width a b c w is_a is_b = record { first = unless_poison width (nat_eq a 0 && nat_eq b 1) (count_trailing_zeros width a) (let few = trailing_le width a in let p = below_power width in omega (arith, few, p)); second = tt }
numbers_kind Abs width a b c w is_a is_b = record { first = unless_poison width (nat_eq a (2 ^ (width - 1)) && nat_eq b 1) (reduced width (pos (unsigned_abs (signed width a)))) (reduced_below width (pos (unsigned_abs (signed width a)))); second = tt }
numbers_kind Smin width a b c w is_a is_b = record { first = either width a b (int_le (signed width a) (signed width b)) is_a is_b; second = tt }
numbers_kind Smax width a b c w is_a is_b = record { first = either width b a (int_le (signed width a) (signed width b)) is_b is_a; second = tt }
numbers_kind Umin width a b c w is_a is_b = record { first = grind (arith, is_a, is_b); second = tt }
numbers_kind Umax width a b c w is_a is_b = record { first = grind (arith, is_a, is_b); second = tt }
numbers_kind SaddSat width a b c w is_a is_b = record { first = reduced_below width (saturate_to_bits (width - 1) (signed width a +ℤ signed width b)); second = tt }
numbers_kind UaddSat width a b c w is_a is_b = record { first = let p = pow_pos width in grind (arith, p); second = tt }
numbers_kind SsubSat width a b c w is_a is_b = record { first = reduced_below width (saturate_to_bits (width - 1) (signed width a -ℤ signed width b)); second = tt }
numbers_kind UsubSat width a b c w is_a is_b = record { first = omega (arith, is_a); second = tt }
numbers_kind SaddWithOverflow width a b c w is_a is_b = record { first = reduced_below width (pos a +ℤ pos b); second = truth_kind (not (fits_signed width (signed width a +ℤ signed width b))) }
numbers_kind UaddWithOverflow width a b c w is_a is_b = record { first = reduced_below width (pos a +ℤ pos b); second = truth_kind (not (fits_unsigned width (pos a +ℤ pos b))) }
numbers_kind SsubWithOverflow width a b c w is_a is_b = record { first = reduced_below width (pos a -ℤ pos b); second = truth_kind (not (fits_signed width (signed width a -ℤ signed width b))) }
numbers_kind UsubWithOverflow width a b c w is_a is_b = record { first = reduced_below width (pos a -ℤ pos b); second = truth_kind (not (fits_unsigned width (pos a -ℤ pos b))) }
numbers_kind SmulWithOverflow width a b c w is_a is_b = record { first = reduced_below width (pos a *ℤ pos b); second = truth_kind (not (fits_signed width (signed width a *ℤ signed width b))) }
numbers_kind UmulWithOverflow width a b c w is_a is_b = record { first = reduced_below width (pos a *ℤ pos b); second = truth_kind (not (fits_unsigned width (pos a *ℤ pos b))) }
numbers_kind Fshl width a b c w is_a is_b =
    record {
      first = shr_below (joined_of width a b * 2 ^ (c % width) % 2 ^ (width + width)) width width (mod_below (joined_of width a b * 2 ^ (c % width)) (2 ^ (width + width)) (pow_pos (width + width)));
      second = tt;
    }
numbers_kind Fshr width a b c w is_a is_b = record { first = mod_below (joined_of width a b / 2 ^ (c % width)) (2 ^ width) (pow_pos width); second = tt }

poisoned_kind : (which : Intrinsic) (width : ℕ) → IsOutcome which width (poisoned which)
poisoned_kind which width = record { first = tt; second = second_kind (has_second which) } where
  second_kind : (two : Bool) → IsSecond two (cond two (Some Poison) None)
  second_kind true = tt
  second_kind false = tt

zero_below : (width b : ℕ) → Int b ≡ Int 0 → b < 2 ^ width
zero_below width b e = let none : b ≡ 0 = cc in let p = pow_pos width in omega (arith, none, p)

bit_below : (width b : ℕ) → IsWidth width → b < 2 → b < 2 ^ width
bit_below width b w small = let x = bounds width w in omega (arith, small, x.double, x.positive)

pub operand_below : (which : Intrinsic) (width b : ℕ) → IsWidth width → IsOperand (second_width which width) (Int b) → b < 2 ^ width
operand_below Ctpop width b w is = zero_below width b is
operand_below Bswap width b w is = zero_below width b is
operand_below Bitreverse width b w is = zero_below width b is
operand_below Ctlz width b w is = bit_below width b w is
operand_below Cttz width b w is = bit_below width b w is
operand_below Abs width b w is = bit_below width b w is
operand_below _ width b w is = is

pub apply_kind : (which : Intrinsic) (width : ℕ) (a b c : Scalar) → IsWidth width → IsInteger width a → IsOperand (second_width which width) b → IsOutcome which width (apply_of which width a b c)
unfolding apply_of
apply_kind which width (Int a) (Int b) (Int c) w is_a is_b = numbers_kind which width a b c w is_a (operand_below which width b w is_b)
apply_kind which width (Int a) (Int b) (Ptr c) w is_a is_b = poisoned_kind which width
apply_kind which width (Int a) (Int b) Poison w is_a is_b = poisoned_kind which width
apply_kind which width (Int a) (Ptr b) c w is_a is_b = poisoned_kind which width
apply_kind which width (Int a) Poison c w is_a is_b = poisoned_kind which width
apply_kind which width (Ptr a) b c w is_a is_b = poisoned_kind which width
apply_kind which width Poison b c w is_a is_b = poisoned_kind which width

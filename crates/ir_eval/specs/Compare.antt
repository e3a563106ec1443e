-- For `compare`: comparisons (LangRef, "icmp Instruction").
use Rattle.std.specs.Prelude.{ℕ, Bool, true, false, not, ◌&&◌, ◌==◌, nat_lt, nat_le, int_lt, int_le, ◌<◌, ◌^◌, ◌≡◌, ⊤, Option, Some, None, if◌then◌else◌}
use Rattle.std.specs.Bool.{beq}
use Rattle.ir_tables.specs.declared.predicate.Predicate.{Predicate}
use Rattle.ir_tables.specs.declared.predicate.Predicate.TheVariants.{Eq, Ne, Ugt, Uge, Ult, Ule, Sgt, Sge, Slt, Sle}
use Rattle.ir_eval.specs.Value.{signed, has_sign, IsInteger, IsPointer}
use Rattle.ir_eval.specs.declared.value.Scalar.{Scalar}
use Rattle.ir_eval.specs.declared.value.Scalar.TheVariants.{Int, Ptr, Poison}

-- what the predicate says of two numbers of a width
abbrev pub holds : Predicate → ℕ → ℕ → ℕ → Bool
holds Eq width a b = a == b
holds Ne width a b = not (a == b)
holds Ugt width a b = nat_lt b a
holds Uge width a b = nat_le b a
holds Ult width a b = nat_lt a b
holds Ule width a b = nat_le a b
holds Sgt width a b = int_lt (signed width b) (signed width a)
holds Sge width a b = int_le (signed width b) (signed width a)
holds Slt width a b = int_lt (signed width a) (signed width b)
holds Sle width a b = int_le (signed width a) (signed width b)

-- true is 1 and false is 0, of width 1
abbrev pub truth : Bool → Scalar
truth true = Int 1
truth false = Int 0

-- `samesign` asks that both have the same sign
abbrev pub comparison_of : Predicate → Bool → ℕ → ℕ → ℕ → Scalar
comparison_of predicate samesign width a b =
    if samesign && not (beq (has_sign width a) (has_sign width b)) then Poison
    else truth (holds predicate width a b)

-- pointers are compared by their addresses, as integers of 64 bits
abbrev pub number_of : Scalar → Option ℕ
number_of (Int number) = Some number
number_of (Ptr pointer) = Some pointer.address
number_of Poison = None

-- a comparison of numbers, poison where one is not there
abbrev pub compared : Predicate → Bool → ℕ → Option ℕ → Option ℕ → Scalar
compared predicate samesign width (Some a) (Some b) = comparison_of predicate samesign width a b
compared predicate samesign width _ _ = Poison

-- `icmp`
abbrev pub compare_of : Predicate → Bool → ℕ → Scalar → Scalar → Scalar
compare_of predicate samesign width a b = compared predicate samesign width (number_of a) (number_of b)

-- what may be compared: two integers of the width, or two pointers, whose width is 64
abbrev pub AreComparable : ℕ → Scalar → Scalar → Type 0
AreComparable width (Int a) b = (a < 2 ^ width) × IsInteger width b
AreComparable width (Ptr a) b = (width ≡ 64) × IsPointer b
AreComparable width Poison (Int b) = b < 2 ^ width
AreComparable width Poison (Ptr b) = width ≡ 64
AreComparable width Poison Poison = ⊤

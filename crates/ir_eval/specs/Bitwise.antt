-- For `binary`: the instructions that work bit by bit (LangRef, "and Instruction", "or Instruction", "xor
-- Instruction").
use Rattle.std.specs.Prelude.{ℕ, bit_and, bit_or, bit_xor, not, ◌&&◌, ◌==◌, if◌then◌else◌}
use Rattle.ir_tables.specs.declared.flag.Flag.TheVariants.{Disjoint}
use Rattle.ir_tables.specs.Flags.{has_flag}
use Rattle.ir_eval.specs.declared.value.Scalar.{Scalar}
use Rattle.ir_eval.specs.declared.value.Scalar.TheVariants.{Int, Poison}

-- `and`
abbrev pub conjunction_of : ℕ → ℕ → Scalar
conjunction_of a b = Int (bit_and a b)

-- `disjoint` asks that no bit is set in both
abbrev pub disjunction_of : ℕ → ℕ → ℕ → Scalar
disjunction_of flags a b = if has_flag flags Disjoint && not (bit_and a b == 0) then Poison else Int (bit_or a b)

-- `xor`
abbrev pub exclusive_of : ℕ → ℕ → Scalar
exclusive_of a b = Int (bit_xor a b)

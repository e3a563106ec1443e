-- For `apply`: what it asks of its operands (LangRef, "Intrinsic Functions").
use Rattle.std.specs.Prelude.{◌≡◌, ℕ, Option, Some, None}
use Rattle.ir_tables.specs.declared.intrinsic.Intrinsic.{Intrinsic}
use Rattle.ir_tables.specs.declared.intrinsic.Intrinsic.TheVariants.{Ctpop, Bswap, Bitreverse, Ctlz, Cttz, Abs, Fshl, Fshr}
use Rattle.ir_eval.specs.Value.{IsInteger}
use Rattle.ir_eval.specs.declared.value.Scalar.{Scalar}
use Rattle.ir_eval.specs.declared.value.Scalar.TheVariants.{Int}

-- the width of the second operand, where there is one: that which asks for poison has one bit
abbrev pub second_width : Intrinsic → ℕ → Option ℕ
second_width Ctpop width = None
second_width Bswap width = None
second_width Bitreverse width = None
second_width Ctlz width = Some 1
second_width Cttz width = Some 1
second_width Abs width = Some 1
second_width _ width = Some width

-- the width of the third
abbrev pub third_width : Intrinsic → ℕ → Option ℕ
third_width Fshl width = Some width
third_width Fshr width = Some width
third_width _ width = None

-- an integer of the width or poison, and 0 in the place of an operand that is not there
abbrev pub IsOperand : Option ℕ → Scalar → Type 0
IsOperand None leaf = leaf ≡ Int 0
IsOperand (Some width) leaf = IsInteger width leaf

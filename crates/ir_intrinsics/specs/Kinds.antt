-- For `apply`: the kinds of its results.
use Rattle.std.specs.Prelude.{ℕ, Bool, true, false, ⊤, Option, Some, None}
use Rattle.ir_tables.specs.declared.intrinsic.Intrinsic.{Intrinsic}
use Rattle.ir_eval.specs.Value.{IsInteger}
use Rattle.ir_eval.specs.declared.value.Scalar.{Scalar}
use Rattle.ir_intrinsics.specs.declared.outcome.Outcome.{Outcome}
use Rattle.ir_intrinsics.specs.Results.{has_second}

-- a second leaf where there is to be one, of one bit
abbrev pub IsSecond : Bool → Option Scalar → Type 0
IsSecond true (Some leaf) = IsInteger 1 leaf
IsSecond true None = ⊥
IsSecond false (Some leaf) = ⊥
IsSecond false None = ⊤

-- a first leaf of the width
pub record IsOutcome (which : Intrinsic) (width : ℕ) (outcome : Outcome) : Type 0 where
  pub first : IsInteger width outcome.first
  pub second : IsSecond (has_second which) outcome.second

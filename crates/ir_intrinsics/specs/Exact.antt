-- Says how the code reads: overflow is told by the instruction with a flag, which gives poison where the exact result
-- does not fit.
use Rattle.std.specs.Prelude.{ℕ, Bool, true, false, Some}
use Rattle.ir_tables.specs.declared.opcode.Opcode.{Opcode}
use Rattle.ir_tables.specs.declared.opcode.Opcode.TheVariants.{Add, Sub, Mul}
use Rattle.ir_eval.specs.Arithmetic.{sum_of, difference_of, product_of}
use Rattle.ir_eval.specs.Compare.{truth}
use Rattle.ir_eval.specs.declared.value.Scalar.{Scalar}
use Rattle.ir_eval.specs.declared.value.Scalar.TheVariants.{Poison}
use Rattle.ir_intrinsics.specs.declared.outcome.Outcome.{Outcome}

-- the instructions that `nuw` and `nsw` are asked of here
abbrev pub is_exact_operation : Opcode → Bool
is_exact_operation Add = true
is_exact_operation Sub = true
is_exact_operation Mul = true
is_exact_operation _ = false

-- what the instruction gives with these flags
abbrev pub exact_of : Opcode → ℕ → ℕ → ℕ → ℕ → Scalar
exact_of Add flags width a b = sum_of flags width a b
exact_of Sub flags width a b = difference_of flags width a b
exact_of Mul flags width a b = product_of flags width a b
exact_of _ flags width a b = Poison

-- the leaf is poison
abbrev pub is_poison : Scalar → Bool
is_poison Poison = true
is_poison _ = false

-- the result without flags, and whether the one with the flag is poison
unfoldable pub told_of : Opcode → ℕ → ℕ → ℕ → ℕ → Outcome
told_of op flag width a b = record { first = exact_of op 0 width a b; second = Some (truth (is_poison (exact_of op flag width a b))) }

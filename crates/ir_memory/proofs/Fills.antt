-- A copy of some bytes.
use Rattle.std.proofs.Common.{◌≡◌, ℕ, zero, suc, refl, Bool, true, false}
use Rattle.std.proofs.Math.Dec.{eqb-suc-zero}
use Rattle.ir_eval.specs.declared.value.Scalar.{Scalar}
use Rattle.ir_memory.specs.Memory.{Blocks, access, copied, copied_at}

pub copied-some : (to from : Scalar) (count : ℕ) (may : Bool) (m : Blocks) → (count ≡ 0 → ⊥) → copied to from count may m ≡ copied_at m count may (access m count 1 false from) (access m count 1 true to)
copied-some to from zero may m some = absurd (some refl)
copied-some to from (suc count) may m some = rw (eqb-suc-zero count) refl

use Rattle.std.proofs.Common.{◌≡◌, ℕ, ◌+◌, ◌<◌, false}
use Rattle.ir_memory.specs.Masked.Masked.{is_marked}
use Rattle.ir_memory.proofs.masked.mask.has_any.Given as goal

abbrev pub invariant-loop-k : goal.invariant-loop-k
invariant-loop-k l = (q : ℕ) → q < l.k → is_marked l.words (l.at + q) ≡ false

use Rattle.std.proofs.Common.{◌≡◌, ℕ, ◌+◌, ◌-◌}
use Rattle.std.specs.Prelude.{length, if◌then◌else◌}
use Rattle.ir_memory.specs.Masked.Masked.{is_marked, is_within}
use Rattle.ir_memory.proofs.masked.mask.move_down.Given as goal

abbrev pub invariant-loop-k : goal.invariant-loop-k
invariant-loop-k l = record {
  len : length l.words ≡ length l.initial.words;
  marks : (q : ℕ) → is_marked l.words q ≡ (if is_within l.at (l.at + l.k) q then is_marked l.initial.words (l.from + (q - l.at)) else is_marked l.initial.words q);
}

use Rattle.std.proofs.Common.{◌≡◌, ℕ, ◌+◌, ◌-◌, ◌≤◌}
use Rattle.std.specs.Prelude.{length, if◌then◌else◌}
use Rattle.ir_memory.specs.Masked.Masked.{is_marked, is_within}
use Rattle.ir_memory.proofs.masked.mask.move_up.Given as goal

abbrev pub invariant-loop-left : goal.invariant-loop-left
invariant-loop-left l = record {
  most : l.left ≤ l.count;
  len : length l.words ≡ length l.initial.words;
  marks : (q : ℕ) → is_marked l.words q ≡ (if is_within (l.at + l.left) (l.at + l.count) q then is_marked l.initial.words (l.from + (q - l.at)) else is_marked l.initial.words q);
}

abbrev pub decreases-loop-left : goal.decreases-loop-left
decreases-loop-left l = l.left

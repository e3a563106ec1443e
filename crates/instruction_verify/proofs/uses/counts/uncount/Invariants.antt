use Rattle.std.proofs.Common.{◌≡◌, ℕ, ◌+◌, length, take}
use Rattle.std.specs.Prelude.{slice_index_or}
use Rattle.instruction_verify.specs.Uses.Edges.{count_in}
use Rattle.instruction_verify.proofs.uses.counts.uncount.Given as goal

abbrev pub invariant-numbers : goal.invariant-numbers
invariant-numbers l = (length l.counts ≡ length l.initial.counts) × ((n : ℕ) → slice_index_or l.counts n 0 + count_in (take l.number-index l.numbers) n ≡ count_in l.numbers n)

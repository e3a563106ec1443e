use Rattle.std.specs.Prelude.{ℕ, ◌<◌}
use Rattle.std.proofs.Common.{get_or}
use Rattle.type_judge.proofs.ends.ranks.are_above.Given as goal

abbrev pub invariant-numbers : goal.invariant-numbers
invariant-numbers l = (k : ℕ) → k < l.number-index → l.low < get_or l.ranks (get_or l.numbers k 0) 0

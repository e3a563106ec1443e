use Rattle.std.specs.Prelude.{ℕ, ◌<◌}
use Rattle.std.proofs.Common.{get_or}
use Rattle.type_judge.specs.Order.Order.{mentioned, mention_lists}
use Rattle.type_judge.specs.Ends.Reach.{AreFrom}
use Rattle.type_judge.proofs.ends.ranks.are_rising.Given as goal

abbrev pub invariant-users : goal.invariant-users
invariant-users l = (last : ℕ) → last < l.number → AreFrom l.ranks (get_or l.ranks last 0) (mentioned (mention_lists l.mentions) last)

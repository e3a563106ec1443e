use Rattle.std.proofs.Common.{arith}
use Rattle.type_judge.proofs.ends.ranks.is_above.Goals as goal

pub returns : goal.returns
returns c told = omega (arith, c.rank_at.ensures)

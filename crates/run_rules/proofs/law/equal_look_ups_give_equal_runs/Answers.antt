use Rattle.run_rules.proofs.SameSide.{same_side}
use Rattle.run_rules.proofs.law.equal_look_ups_give_equal_runs.Goals as goal

pub returns : goal.returns
returns c = same_side

use Rattle.name_judge.proofs.OnLocals.Steps.{asked}
use Rattle.name_judge.proofs.locals.passing.ending_passes.Goals as goal

pub returns-in-Jump : goal.returns-in-Jump
returns-in-Jump c e = rw c.in-Jump.is (asked _ _ (c.is_in_turn.ensures e))

use Rattle.name_judge.proofs.OnLocals.Steps.{asked}
use Rattle.name_judge.proofs.locals.passing.value_passes.Goals as goal

pub returns-in-Local : goal.returns-in-Local
returns-in-Local c e = rw c.in-Local.is (asked _ _ (c.is_in_turn.ensures e))

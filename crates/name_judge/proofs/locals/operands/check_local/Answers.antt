use Rattle.name_judge.proofs.OnLocals.Steps.{asked}
use Rattle.name_judge.proofs.locals.operands.check_local.Goals as goal

pub returns-then-is_in_turn : goal.returns-then-is_in_turn
returns-then-is_in_turn c = asked _ _ (c.is_in_turn.ensures c.if-is_in_turn.true)

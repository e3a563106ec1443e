use Rattle.name_judge.proofs.OnLocals.Steps.{judged_rest}
use Rattle.name_judge.proofs.locals.passing.pair_passes.Goals as goal

pub returns : goal.returns
returns c e = judged_rest _ _ _ (c.operand_passes.ensures c.if-not-operand_passes.false) (c.value_passes.ensures e)

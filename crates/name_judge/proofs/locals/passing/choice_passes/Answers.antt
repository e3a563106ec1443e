use Rattle.name_judge.proofs.OnLocals.Steps.{judged_rest}
use Rattle.name_judge.proofs.locals.passing.choice_passes.Goals as goal

pub returns : goal.returns
returns c e = judged_rest _ _ _ (c.operand_passes.ensures c.if-not-operand_passes.false) (judged_rest _ _ _ (c.operand_passes-2.ensures c.if-not-operand_passes-2.false) (c.operand_passes-3.ensures e))

use Rattle.name_judge.proofs.OnLocals.Steps.{judged_rest}
use Rattle.name_judge.proofs.locals.passing.alloca_passes.Goals as goal

pub returns : goal.returns
returns c known all e = judged_rest _ _ _ (c.type_passes.ensures known c.if-not-type_passes.false) (judged_rest _ _ _ (c.count_passes.ensures known all c.if-not-count_passes.false) (c.alignment_passes.ensures e))

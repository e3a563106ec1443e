use Rattle.type_judge.specs.Gathered.{known_of}
use Rattle.name_judge.proofs.OnLocals.Steps.{judged_rest}
use Rattle.name_judge.proofs.locals.passing.operand_passes.Goals as goal

pub returns : goal.returns
returns c e = judged_rest _ _ _ (c.type_passes.ensures (known_of c.args.known.now) c.if-not-type_passes.false) (c.value_passes.ensures e)

use Rattle.name_judge.specs.Locals.Names.{AreGathered}
use Rattle.name_judge.proofs.locals.gathered.FunctionLocals.gather.Goals as goal

pub returns-clause-gathered : goal.returns-clause-gathered
unfolding AreGathered
returns-clause-gathered c = c.in_ok-gather_names.ensures

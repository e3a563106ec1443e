use Rattle.name_judge.proofs.OnLocals.Named.{holds_none}
use Rattle.name_judge.proofs.locals.local_names.LocalNames.clear.Goals as goal

pub returns-clause-names : goal.returns-clause-names
returns-clause-names c = holds_none _ c.clear.ensures.items c.clear-2.ensures c.clear-3.ensures

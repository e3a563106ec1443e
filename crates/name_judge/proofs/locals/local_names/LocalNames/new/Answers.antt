use Rattle.name_judge.proofs.OnLocals.Named.{holds_none}
use Rattle.name_judge.proofs.locals.local_names.LocalNames.new.Goals as goal

pub returns : goal.returns
returns c = holds_none _ c.new.ensures.items c.new-2.ensures c.new-3.ensures

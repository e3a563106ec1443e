use Rattle.record_law.proofs.OneModule.{read_or_refused}
use Rattle.record_law.proofs.laws.trees_are_read_or_refused.Goals as goal

pub returns : goal.returns
returns c = read_or_refused

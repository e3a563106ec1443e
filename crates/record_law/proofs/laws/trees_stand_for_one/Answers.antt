use Rattle.record_law.proofs.OneModule.{one_module}
use Rattle.record_law.proofs.laws.trees_stand_for_one.Goals as goal

pub returns : goal.returns
returns c = one_module

use Rattle.name_rules.proofs.Once.{reads_once}
use Rattle.name_rules.proofs.laws.one_module.Goals as goal

pub returns : goal.returns
returns c = reads_once

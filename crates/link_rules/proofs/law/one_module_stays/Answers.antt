use Rattle.link_rules.proofs.Carrying.{module_stays}
use Rattle.link_rules.proofs.law.one_module_stays.Goals as goal

pub returns : goal.returns
returns c = module_stays

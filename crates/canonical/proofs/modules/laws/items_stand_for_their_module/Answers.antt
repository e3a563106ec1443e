use Rattle.canonical.proofs.OnModules.Modules.{module_back}
use Rattle.canonical.proofs.modules.laws.items_stand_for_their_module.Goals as goal

pub returns : goal.returns
returns c = module_back

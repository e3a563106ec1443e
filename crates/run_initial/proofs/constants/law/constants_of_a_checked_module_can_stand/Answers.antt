use Rattle.run_initial.proofs.OnConstants.Standing.{constants_can_stand}
use Rattle.run_initial.proofs.constants.law.constants_of_a_checked_module_can_stand.Goals as goal

pub returns : goal.returns
returns c = constants_can_stand

use Rattle.record_law.proofs.OnFormed.Whole.{stands_well}
use Rattle.record_law.proofs.formed.laws.trees_stand_for_well_formed.Goals as goal

pub returns : goal.returns
returns c = stands_well

use Rattle.record_law.proofs.OneModule.{openings_back}
use Rattle.record_law.proofs.laws.openings_are_read_back.Goals as goal

pub returns : goal.returns
returns c = openings_back

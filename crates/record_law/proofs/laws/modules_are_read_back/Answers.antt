use Rattle.record_law.proofs.Joined.{stands}
use Rattle.record_law.proofs.laws.modules_are_read_back.Goals as goal

pub returns : goal.returns
returns c = stands

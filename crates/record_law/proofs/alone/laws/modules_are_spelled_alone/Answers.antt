use Rattle.record_law.proofs.OnAlone.Alone.{spelled_alone}
use Rattle.record_law.proofs.alone.laws.modules_are_spelled_alone.Goals as goal

pub returns : goal.returns
returns c = spelled_alone

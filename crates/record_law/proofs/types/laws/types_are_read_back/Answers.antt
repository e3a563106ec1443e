use Rattle.record_law.proofs.OnTypes.TypesFit.{types_back}
use Rattle.record_law.proofs.types.laws.types_are_read_back.Goals as goal

pub returns : goal.returns
returns c = types_back

use Rattle.record_law.proofs.RecordsPut.{all_put}
use Rattle.record_law.proofs.laws.records_are_those_put.Goals as goal

pub returns : goal.returns
returns c = all_put

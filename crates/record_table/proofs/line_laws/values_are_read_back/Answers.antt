use Rattle.record_table.proofs.EveryLine.{values_back}
use Rattle.record_table.proofs.line_laws.values_are_read_back.Goals as goal

pub returns : goal.returns
returns c = values_back

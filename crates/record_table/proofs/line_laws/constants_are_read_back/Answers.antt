use Rattle.record_table.proofs.EveryLine.{constants_back}
use Rattle.record_table.proofs.line_laws.constants_are_read_back.Goals as goal

pub returns : goal.returns
returns c = constants_back

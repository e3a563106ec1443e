use Rattle.record_table.proofs.EveryLine.{endings_back}
use Rattle.record_table.proofs.line_laws.endings_are_read_back.Goals as goal

pub returns : goal.returns
returns c = endings_back

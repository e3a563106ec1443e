use Rattle.record_table.proofs.EveryLine.{instructions_back}
use Rattle.record_table.proofs.line_laws.instructions_are_read_back.Goals as goal

pub returns : goal.returns
returns c = instructions_back

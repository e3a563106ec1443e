use Rattle.ir_terminals.proofs.NumberNames.{behind_mark, number_name}
use Rattle.ir_terminals.proofs.reading.digits_name.Goals as goal

pub from_slice-requires : goal.from_slice-requires
from_slice-requires c = rw (behind_mark c.args.spelling.now) (number_name c.args.spelling.now c.requires)

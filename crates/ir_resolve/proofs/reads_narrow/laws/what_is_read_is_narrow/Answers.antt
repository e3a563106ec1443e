use Rattle.ir_resolve.proofs.OnReadsNarrow.Items.{are_narrow}
use Rattle.ir_resolve.proofs.reads_narrow.laws.what_is_read_is_narrow.Goals as goal

pub returns : goal.returns
returns c = are_narrow

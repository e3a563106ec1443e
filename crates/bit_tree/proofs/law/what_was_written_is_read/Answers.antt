use Rattle.bit_tree.proofs.Back.{written_is_read}
use Rattle.bit_tree.proofs.law.what_was_written_is_read.Goals as goal

pub returns : goal.returns
returns c = written_is_read

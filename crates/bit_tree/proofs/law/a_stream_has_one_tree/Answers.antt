use Rattle.bit_tree.proofs.OneTree.{one_tree}
use Rattle.bit_tree.proofs.law.a_stream_has_one_tree.Goals as goal

pub returns : goal.returns
returns c = one_tree

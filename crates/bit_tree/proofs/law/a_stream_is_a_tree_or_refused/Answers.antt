use Rattle.bit_tree.proofs.Faults.{tree_or_fault}
use Rattle.bit_tree.proofs.law.a_stream_is_a_tree_or_refused.Goals as goal

pub returns : goal.returns
returns c = tree_or_fault

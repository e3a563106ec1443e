use Rattle.bit_tree.proofs.Faults.{tree_no_fault}
use Rattle.bit_tree.proofs.law.a_tree_is_not_refused.Goals as goal

pub returns : goal.returns
returns c = tree_no_fault

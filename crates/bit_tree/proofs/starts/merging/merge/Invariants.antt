use Rattle.std.proofs.Common.{◌+◌, ◌++◌, take}
use Rattle.bit_tree.specs.Starts.Rows.{starts_in}
use Rattle.bit_tree.proofs.OnStarts.Joining.{IsMerging}
use Rattle.bit_tree.proofs.starts.merging.merge.Given as goal

abbrev pub invariant-loop-back : goal.invariant-loop-back
invariant-loop-back l = IsMerging (λ id. starts_in (take l.count l.fn.rows) id ++ starts_in l.later id) l.later l.rows l.front l.back

abbrev pub decreases-loop-back : goal.decreases-loop-back
decreases-loop-back l = l.front + l.back

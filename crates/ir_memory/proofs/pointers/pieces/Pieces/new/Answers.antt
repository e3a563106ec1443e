use Rattle.std.proofs.Common.{◌/◌, refl, rules}
use Rattle.std.specs.Ordering.{nat_cmp}
use Rattle.std.specs.BTreeMap as tree
use Rattle.ir_memory.proofs.OnPointers.Seen.{at_none}
use Rattle.ir_memory.proofs.pointers.pieces.Pieces.new.Goals as goal

pub returns : goal.returns
returns c = λ q. at_none (tree.get nat_cmp c.new.result) q (q / 8) refl (search rules)

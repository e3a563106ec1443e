use Rattle.std.proofs.Common.{◌≡◌, ℕ, None}
use Rattle.std.specs.Ordering.{nat_cmp}
use Rattle.std.specs.BTreeMap as tree
use Rattle.ir_memory.specs.Pointers.Pieces.{with_pointer}
use Rattle.ir_memory.proofs.pointers.pieces.pieces_of.Given as goal

abbrev pub invariant-loop-k : goal.invariant-loop-k
invariant-loop-k l = (q : ℕ) → tree.get nat_cmp l.found q ≡ with_pointer l.at l.k l.pointer (λ q. None) q

use Rattle.std.proofs.Common.{◌≡◌, ℕ, ◌≤◌, ◌-◌}
use Rattle.std.specs.Ordering.{nat_cmp}
use Rattle.std.specs.BTreeMap as tree
use Rattle.ir_memory.specs.Pointers.Pieces.{at_slots, shifted}
use Rattle.ir_memory.proofs.pointers.moved.moved.Given as goal

abbrev pub invariant-loop-key : goal.invariant-loop-key
invariant-loop-key l = record {
  high : l.next ≤ l.count;
  done : (q : ℕ) → tree.get nat_cmp l.found q ≡ shifted l.to l.from l.next (at_slots (tree.get nat_cmp l.slots)) q;
}

abbrev pub decreases-loop-key : goal.decreases-loop-key
decreases-loop-key l = l.count - l.next

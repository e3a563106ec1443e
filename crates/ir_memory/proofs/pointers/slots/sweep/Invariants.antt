use Rattle.std.proofs.Common.{◌≡◌, ℕ, ◌/◌, ◌≤◌, ◌-◌}
use Rattle.std.specs.Ordering.{nat_cmp}
use Rattle.std.specs.BTreeMap as tree
use Rattle.ir_memory.specs.Pointers.Pieces.{at_slots}
use Rattle.ir_memory.proofs.pointers.slots.sweep.Given as goal

abbrev pub invariant-slots : goal.invariant-slots
invariant-slots l = record {
  low : l.from / 8 ≤ l.next;
  high : l.next ≤ l.end;
  same : (q : ℕ) → at_slots (tree.get nat_cmp l.slots) q ≡ at_slots (tree.get nat_cmp l.initial.slots) q;
}

abbrev pub decreases-slots : goal.decreases-slots
decreases-slots l = l.end - l.next

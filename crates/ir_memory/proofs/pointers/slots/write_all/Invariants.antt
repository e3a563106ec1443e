use Rattle.std.proofs.Common.{◌≡◌, ℕ, ◌/◌, ◌<◌, ◌≤◌, ◌-◌}
use Rattle.std.specs.Ordering.{nat_cmp}
use Rattle.std.specs.BTreeMap as tree
use Rattle.ir_memory.specs.Pointers.Pieces.{at_slots, within_or}
use Rattle.ir_memory.proofs.pointers.slots.write_all.Given as goal

abbrev pub invariant-slots : goal.invariant-slots
invariant-slots l = record {
  low : l.from / 8 ≤ l.next;
  high : l.next ≤ l.end;
  done : (q : ℕ) → q / 8 < l.next → at_slots (tree.get nat_cmp l.slots) q ≡ within_or l.from l.to (tree.get nat_cmp l.found) (at_slots (tree.get nat_cmp l.initial.slots)) q;
  ahead : (s : ℕ) → l.next ≤ s → tree.get nat_cmp l.slots s ≡ tree.get nat_cmp l.initial.slots s;
}

abbrev pub decreases-slots : goal.decreases-slots
decreases-slots l = l.end - l.next

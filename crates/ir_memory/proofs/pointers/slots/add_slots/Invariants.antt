use Rattle.std.proofs.Common.{◌≡◌, ℕ, ◌/◌, ◌<◌, ◌≤◌, ◌-◌}
use Rattle.std.specs.Prelude.{IsSome}
use Rattle.std.specs.Ordering.{nat_cmp}
use Rattle.std.specs.BTreeMap as tree
use Rattle.ir_memory.specs.Pointers.Pieces.{at_slots}
use Rattle.ir_memory.proofs.pointers.slots.add_slots.Given as goal

abbrev pub invariant-found : goal.invariant-found
invariant-found l = record {
  low : l.from ≤ l.next;
  high : l.next ≤ l.to;
  room : (q : ℕ) → l.from ≤ q → q < l.next → IsSome (tree.get nat_cmp l.found q) → IsSome (tree.get nat_cmp l.slots (q / 8));
  same : (q : ℕ) → at_slots (tree.get nat_cmp l.slots) q ≡ at_slots (tree.get nat_cmp l.initial.slots) q;
}

abbrev pub decreases-found : goal.decreases-found
decreases-found l = l.to - l.next

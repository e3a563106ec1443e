use Rattle.std.proofs.Common.{◌≡◌, ℕ, ◌+◌, ◌-◌, None, length, slice_index_or}
use Rattle.record_write.proofs.order.order.make_room.Given as goal

abbrev pub invariant-loop-places : goal.invariant-loop-places
invariant-loop-places l = (other : ℕ) → slice_index_or l.places.items other None ≡ slice_index_or l.fn.places.items other None

abbrev pub decreases-loop-places : goal.decreases-loop-places
decreases-loop-places l = l.class + 1 - length l.places.items

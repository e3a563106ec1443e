use Rattle.std.proofs.Common.{◌+◌, ◌*◌, max, flat_map, take}
use Rattle.record_write.specs.Order.Written.{in_typed, Goes}
use Rattle.record_write.proofs.OnOrder.ConstantParts.{top}
use Rattle.record_write.proofs.order.constants.+constants.Given as goal

abbrev pub decreases-note_constant : goal.decreases-note_constant
decreases-note_constant l = 8 * l.id + 3

abbrev pub decreases-note_parts : goal.decreases-note_parts
decreases-note_parts l = 8 * l.id + 2

abbrev pub decreases-note_typed : goal.decreases-note_typed
decreases-note_typed l = 8 * l.part.value + 4

abbrev pub decreases-note_constants : goal.decreases-note_constants
decreases-note_constants l = 8 * top l.parts.now

abbrev pub decreases-note_address : goal.decreases-note_address
decreases-note_address l = 8 * top l.address.now.operands + 1

abbrev pub decreases-note_pair : goal.decreases-note_pair
decreases-note_pair l = 8 * max l.pair.left.value l.pair.right.value + 5

-- the constants so far are gone through
abbrev pub invariant-note_constants-loop-part : goal.invariant-note_constants-loop-part
invariant-note_constants-loop-part l = Goes l.arena l.fn.order l.order (flat_map (in_typed l.arena) (take l.part-index l.parts))

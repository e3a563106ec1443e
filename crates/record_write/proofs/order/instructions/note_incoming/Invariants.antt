use Rattle.std.proofs.Common.{flat_map, take}
use Rattle.record_write.specs.Order.Written.{in_incoming, Goes}
use Rattle.record_write.proofs.order.instructions.note_incoming.Given as goal

abbrev pub invariant-loop-one : goal.invariant-loop-one
invariant-loop-one l = Goes l.arena l.fn.order l.order (flat_map (in_incoming l.arena) (take l.one-index l.incoming))

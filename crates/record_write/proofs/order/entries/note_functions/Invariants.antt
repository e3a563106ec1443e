use Rattle.std.proofs.Common.{flat_map, take}
use Rattle.record_write.specs.Order.Written.{in_function, Goes}
use Rattle.record_write.proofs.order.entries.note_functions.Given as goal

abbrev pub invariant-loop-number : goal.invariant-loop-number
invariant-loop-number l = Goes l.arena l.fn.order l.order (flat_map (in_function l.arena) (take l.number l.arena.functions))

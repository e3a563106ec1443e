use Rattle.std.proofs.Common.{flat_map, take}
use Rattle.record_write.specs.Order.Written.{in_variable, Goes}
use Rattle.record_write.proofs.order.entries.note_variables.Given as goal

abbrev pub invariant-loop-number : goal.invariant-loop-number
invariant-loop-number l = Goes l.arena l.fn.order l.order (flat_map (in_variable l.arena) (take l.number l.arena.variables))

use Rattle.std.proofs.Common.{flat_map, take}
use Rattle.record_write.specs.Order.Written.{in_operand, Goes}
use Rattle.record_write.proofs.order.constants.note_operands.Given as goal

abbrev pub invariant-loop-operand : goal.invariant-loop-operand
invariant-loop-operand l = Goes l.arena l.fn.order l.order (flat_map (in_operand l.arena) (take l.operand-index l.operands))

use Rattle.std.proofs.Common.{flat_map, take}
use Rattle.record_write.specs.Order.Written.{in_inst, Goes}
use Rattle.record_write.proofs.order.instructions.note_instructions.Given as goal

abbrev pub invariant-loop-instruction : goal.invariant-loop-instruction
invariant-loop-instruction l = Goes l.arena l.fn.order l.order (flat_map (in_inst l.arena) (take l.instruction-index l.instructions))

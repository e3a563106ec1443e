use Rattle.std.proofs.Common.{flat_map, take}
use Rattle.record_write.specs.Order.Written.{in_case, Goes}
use Rattle.record_write.proofs.order.instructions.note_cases.Given as goal

abbrev pub invariant-loop-case : goal.invariant-loop-case
invariant-loop-case l = Goes l.arena l.fn.order l.order (flat_map (in_case l.arena) (take l.case-index l.cases))

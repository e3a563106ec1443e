use Rattle.std.proofs.Common.{flat_map, take}
use Rattle.type_table.specs.Types.{bodies}
use Rattle.record_write.specs.Order.Written.{in_struct_body, Goes}
use Rattle.record_write.proofs.order.entries.note_structs.Given as goal

abbrev pub invariant-loop-number : goal.invariant-loop-number
invariant-loop-number l = Goes l.arena l.fn.order l.order (flat_map (in_struct_body l.arena.table) (take l.number (bodies l.arena.table)))

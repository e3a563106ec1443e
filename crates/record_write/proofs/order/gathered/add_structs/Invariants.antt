use Rattle.std.proofs.Common.{take}
use Rattle.type_table.specs.Types.{names}
use Rattle.record_write.specs.Order.Table.{Gains}
use Rattle.record_write.proofs.order.gathered.add_structs.Given as goal

abbrev pub invariant-loop-number : goal.invariant-loop-number
invariant-loop-number l = Gains l.fn.table l.table (take l.number (names l.types))

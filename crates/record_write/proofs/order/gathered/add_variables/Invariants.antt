use Rattle.std.proofs.Common.{map, take}
use Rattle.record_write.specs.Order.Table.{Gains}
use Rattle.record_write.proofs.order.gathered.add_variables.Given as goal

abbrev pub invariant-loop-number : goal.invariant-loop-number
invariant-loop-number l = Gains l.fn.table l.table (map (λ v. v.name) (take l.number l.arena.variables))

use Rattle.std.proofs.Common.{map, take}
use Rattle.record_write.specs.Order.Table.{Gains}
use Rattle.record_write.proofs.order.gathered.add_aliases.Given as goal

abbrev pub invariant-loop-number : goal.invariant-loop-number
invariant-loop-number l = Gains l.fn.table l.table (map (λ x. x.name) (take l.number l.arena.aliases))

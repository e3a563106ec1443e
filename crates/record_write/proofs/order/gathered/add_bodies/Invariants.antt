use Rattle.std.proofs.Common.{flat_map, take}
use Rattle.record_write.specs.Order.Bodies.{body_texts}
use Rattle.record_write.specs.Order.Table.{Gains}
use Rattle.record_write.proofs.order.gathered.add_bodies.Given as goal

abbrev pub invariant-loop-number : goal.invariant-loop-number
invariant-loop-number l = Gains l.fn.table l.table (flat_map body_texts (take l.number l.arena.functions))

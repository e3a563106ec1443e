use Rattle.std.proofs.Common.{flat_map, take}
use Rattle.record_write.specs.Order.Bodies.{local_text}
use Rattle.record_write.specs.Order.Table.{Gains}
use Rattle.record_write.proofs.order.gathered.add_parameters.Given as goal

abbrev pub invariant-loop-parameter : goal.invariant-loop-parameter
invariant-loop-parameter l = Gains l.fn.table l.table (flat_map (λ p. local_text p.name) (take l.parameter-index l.parameters))

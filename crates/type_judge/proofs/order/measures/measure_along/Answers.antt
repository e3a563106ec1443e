use Rattle.std.proofs.Common.{arith, get_or}
use Rattle.type_judge.proofs.OnOrder.Placed.{stands_at}
use Rattle.type_judge.proofs.order.measures.measure_along.Goals as goal

pub measure_struct-requires : goal.measure_struct-requires
measure_struct-requires c = c.requires (get_or c.args.order.now c.order.number-index 0) (stands_at c.args.order.now c.order.number-index (omega arith))

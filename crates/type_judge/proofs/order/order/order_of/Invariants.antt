use Rattle.std.proofs.Common.{length, ◌-◌}
use Rattle.type_judge.specs.Order.Order.{IsSettling, mention_lists}
use Rattle.type_judge.proofs.order.order.order_of.Given as goal

abbrev pub invariant-goes : goal.invariant-goes
invariant-goes l = IsSettling (mention_lists l.mentions) l.settling.settled.items l.settling.order.items

abbrev pub decreases-goes : goal.decreases-goes
decreases-goes l = length l.mentions - length l.settling.order.items

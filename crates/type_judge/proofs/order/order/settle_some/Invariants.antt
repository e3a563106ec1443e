use Rattle.type_judge.specs.Order.Order.{IsSettling, mention_lists}
use Rattle.type_judge.proofs.order.order.settle_some.Given as goal

abbrev pub invariant-candidates : goal.invariant-candidates
invariant-candidates l = IsSettling (mention_lists l.mentions) l.settling.settled.items l.settling.order.items

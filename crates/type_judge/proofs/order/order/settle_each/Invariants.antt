use Rattle.type_judge.specs.Order.Order.{IsSettling, KeepsAll, mention_lists}
use Rattle.type_judge.proofs.order.order.settle_each.Given as goal

abbrev pub invariant-numbers : goal.invariant-numbers
invariant-numbers l = record {
  settling : IsSettling (mention_lists l.mentions) l.settling.settled.items l.settling.order.items;
  kept : KeepsAll (mention_lists l.mentions) l.number l.initial.settling.order.items l.settling.order.items;
}

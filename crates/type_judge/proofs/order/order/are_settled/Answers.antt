use Rattle.std.proofs.Common.{arith, get_or}
use Rattle.type_judge.proofs.OnOrder.Placed.{all_settled, number_at}
use Rattle.type_judge.proofs.order.order.are_settled.Goals as goal

pub returns-then-not-settled-number : goal.returns-then-not-settled-number
returns-then-not-settled-number c = (get_or c.args.mentions.now c.loop-number.number-index 0, number_at c.args.mentions.now c.loop-number.number-index (omega arith), c.if-not-settled-number.true)

pub returns : goal.returns
returns c = all_settled c.args.settled.now c.args.mentions.now (λ k h. c.loop-number.invariant k (omega (arith, h)))

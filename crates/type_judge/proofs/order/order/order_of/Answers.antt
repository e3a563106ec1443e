use Rattle.std.proofs.Common.{arith, ℕ}
use Rattle.std.proofs.lemmas.List.{length-map}
use Rattle.std.specs.Global.{Vec}
use Rattle.type_judge.specs.Order.Order.{mention_lists}
use Rattle.type_judge.proofs.OnOrder.Placed.{is_short}
use Rattle.type_judge.proofs.order.order.order_of.Goals as goal

pub goes-smaller : goal.goes-smaller
goes-smaller c =
    let lists = mention_lists c.args.mentions.now in
    let count = length-map c.args.mentions.now (λ (v : Vec ℕ). v.items) in
    let short = is_short lists _ _ c.in_ok-settle_each.ensures.settling in
    let longer = c.in_ok-settle_each.ensures.kept.longer in
    omega (arith, count, short, longer, c.len-before.ensures)

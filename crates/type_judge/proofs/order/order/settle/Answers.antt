use Rattle.std.proofs.Common.{◌≡◌, ◌<◌, arith, subst, sym, ◌∙◌, List, ℕ, Bool, set, get_or, true, length}
use Rattle.std.proofs.lemmas.List.{length-map}
use Rattle.std.specs.Global.{Vec}
use Rattle.type_judge.specs.Order.Order.{AreSettled, IsSettling, mention_lists}
use Rattle.type_judge.proofs.OnOrder.Placed.{one_more, mentioned_at}
use Rattle.type_judge.proofs.order.order.settle.Goals as goal

pub returns-clause-settling : goal.returns-clause-settling
returns-clause-settling c =
    let lists = c.args.mentions.now in
    let settled = c.args.settling.now.settled.items in
    let at = mentioned_at lists c.args.number c.index-mentions-number.result c.requires.number c.index-mentions-number.is in
    let all = subst (λ (s : List Bool). AreSettled s c.deref-2.result.now) c.deref.ensures.value c.if-not-are_settled.ensures in
    let each = subst (λ (ms : List ℕ). AreSettled settled ms) (c.deref-2.ensures.value ∙ sym at) all in
    let count = length-map lists (λ (v : Vec ℕ). v.items) in
    let within : c.args.number < length (mention_lists lists) = omega (arith, count, c.requires.number) in
    let new = sym (subst (λ (b : Bool). b ≡ get_or settled c.args.number b) c.if-index.false c.index.ensures) in
    subst (λ (os : List ℕ). IsSettling (mention_lists lists) (set settled c.args.number true) os) (sym c.in_ok-push.ensures.items)
    (one_more (mention_lists lists) settled c.args.settling.now.order.items c.args.number c.requires.settling within new each)

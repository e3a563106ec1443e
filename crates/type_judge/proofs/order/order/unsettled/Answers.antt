use Rattle.std.proofs.Common.{◌≡◌, subst, sym, ap, ◌∙◌, List, ℕ, Bool, length, get_or, false}
use Rattle.std.proofs.lemmas.List.{length-map, length-replicate}
use Rattle.std.specs.Global.{Vec}
use Rattle.type_judge.specs.Order.Order.{IsSettling, mention_lists}
use Rattle.type_judge.proofs.OnOrder.Placed.{nothing_settled, none_marked}
use Rattle.type_judge.proofs.order.order.unsettled.Goals as goal

pub returns : goal.returns
returns c =
    let lists = mention_lists c.args.mentions.now in
    let settled = c.in_ok-vec.field-0.items in
    let are = c.in_ok-vec.ensures.items_if_clones_equal (λ y e. e) in
    let count : length settled ≡ length lists = ap length are ∙ length-replicate (length c.args.mentions.now) false ∙ sym (length-map c.args.mentions.now (λ (v : Vec ℕ). v.items)) in
    subst (λ (os : List ℕ). IsSettling lists settled os) (sym c.new.ensures.items)
    (nothing_settled lists settled count (λ k. ap (λ (s : List Bool). get_or s k false) are ∙ none_marked (length c.args.mentions.now) k))

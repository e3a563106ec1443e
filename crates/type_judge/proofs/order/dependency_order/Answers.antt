use Rattle.std.proofs.Common.{◌≡◌, subst, sym, ap, ◌∙◌, arith, List, length, ℕ}
use Rattle.std.proofs.lemmas.List.{length-map}
use Rattle.std.proofs.lemmas.Result.{IfOk-weaker}
use Rattle.std.specs.Global.{Vec}
use Rattle.ir_syntax.specs.View.{items_view}
use Rattle.name_rules.specs.ModuleOf.{structs_in}
use Rattle.type_judge.specs.Order.Order.{mention_lists, AreWithin, IsOrder}
use Rattle.type_judge.proofs.OnOrder.Gathered.{length-lists}
use Rattle.type_judge.proofs.OnOrder.Named.{are_within, is_dependency_order}
use Rattle.type_judge.proofs.order.dependency_order.Goals as goal

pub order_of-requires-clause-small : goal.order_of-requires-clause-small
order_of-requires-clause-small c =
    let structs = structs_in (items_view c.args.items.now) in
    let all = c.in_ok-mentions.mentions.items in
    let count : length all ≡ length structs = sym (length-map all (λ (v : Vec ℕ). v.items)) ∙ ap length c.in_ok-mentions.ensures ∙ length-lists c.in_ok-numbers.numbers 0 structs in
    let same = ap length c.deref.ensures.value in
    omega (arith, count, same, c.requires)

pub order_of-requires-clause-within : goal.order_of-requires-clause-within
order_of-requires-clause-within c =
    subst (λ (all : List (Vec ℕ)). AreWithin all) (sym c.deref.ensures.value)
    (are_within (structs_in (items_view c.args.items.now)) c.in_ok-numbers.numbers c.in_ok-mentions.mentions.items c.in_ok-numbers.ensures c.in_ok-mentions.ensures)

pub returns : goal.returns
returns c =
    let lists = ap mention_lists c.deref.ensures.value ∙ c.in_ok-mentions.ensures in
    IfOk-weaker c.order_of.result _ _ (λ order is. is_dependency_order (structs_in (items_view c.args.items.now)) c.in_ok-numbers.numbers c.in_ok-numbers.ensures order.items (subst (λ (ls : List (List ℕ)). IsOrder ls order.items) lists is)) c.order_of.ensures

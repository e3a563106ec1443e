use Rattle.std.proofs.Common.{subst, sym, ap, ◌∙◌, arith, take, List, length, ◌+◌, [], ◌∷◌, length-append}
use Rattle.ir_syntax.specs.declared.item.Item.{Item}
use Rattle.ir_syntax.specs.View.{item_view, items_view}
use Rattle.name_rules.specs.ModuleOf.{structs_in}
use Rattle.type_table.specs.Tree.{Structs}
use Rattle.type_judge.specs.Order.Mentions.{AreNumbers}
use Rattle.type_judge.proofs.OnOrder.Gathered.{structs_more, fewer}
use Rattle.type_judge.proofs.order.mentions.struct_numbers.Goals as goal

pub number_item-requires : goal.number_item-requires
number_item-requires c =
    let few = fewer c.as_slice-item-items.result.now c.items.item-index c.item-item.result (omega arith) c.item-item.is in
    let same = ap (λ (xs : List Item). length (structs_in (items_view xs))) c.as_slice-item-items.ensures in
    omega (arith, few, same, c.items.invariant.count, c.requires)

pub items-preserved : goal.items-preserved
items-preserved c =
    let front = structs_in (items_view (take c.items.item-index c.as_slice-item-items.result.now)) in
    let one = structs_in (item_view c.item-item.result ∷ []) in
    let more = structs_more c.as_slice-item-items.result.now c.items.item-index c.item-item.result (omega arith) c.item-item.is in
    record {
      numbers = subst (λ (ss : Structs). AreNumbers c.number_item.new.numbers ss) (sym more) (c.in_ok-count.ensures.numbers front c.items.invariant.count c.items.invariant.numbers);
      count = c.in_ok-count.ensures.next ∙ ap (λ k. k + length one) c.items.invariant.count ∙ sym (length-append front one) ∙ sym (ap length more);
    }

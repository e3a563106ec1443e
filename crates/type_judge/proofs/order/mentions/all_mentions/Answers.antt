use Rattle.std.proofs.Common.{◌≡◌, sym, ap, ◌∙◌, arith, take, List, length, ◌+◌, ◌++◌, [], ◌∷◌, ℕ}
use Rattle.std.proofs.lemmas.List.{length-map}
use Rattle.std.specs.Global.{Vec}
use Rattle.ir_syntax.specs.declared.item.Item.{Item}
use Rattle.ir_syntax.specs.View.{item_view, items_view}
use Rattle.name_rules.specs.ModuleOf.{structs_in}
use Rattle.type_judge.specs.Order.Mentions.{lists_from}
use Rattle.type_judge.proofs.OnOrder.Gathered.{structs_more, fewer, length-lists, lists-append}
use Rattle.type_judge.proofs.order.mentions.all_mentions.Goals as goal

pub add_mentions-requires : goal.add_mentions-requires
add_mentions-requires c =
    let front = structs_in (items_view (take c.items.item-index c.as_slice-item-items.result.now)) in
    let few = fewer c.as_slice-item-items.result.now c.items.item-index c.item-item.result (omega arith) c.item-item.is in
    let same = ap (λ (xs : List Item). length (structs_in (items_view xs))) c.as_slice-item-items.ensures in
    let count : length c.items.all.items ≡ length front = sym (length-map c.items.all.items (λ (v : Vec ℕ). v.items)) ∙ ap length c.items.invariant ∙ length-lists c.args.numbers.now 0 front in
    omega (arith, few, same, count, c.requires)

pub items-preserved : goal.items-preserved
items-preserved c =
    let numbers = c.args.numbers.now in
    let front = structs_in (items_view (take c.items.item-index c.as_slice-item-items.result.now)) in
    let one = structs_in (item_view c.item-item.result ∷ []) in
    let more = structs_more c.as_slice-item-items.result.now c.items.item-index c.item-item.result (omega arith) c.item-item.is in
    let count : length c.items.all.items ≡ 0 + length front =
    (let plain = sym (length-map c.items.all.items (λ (v : Vec ℕ). v.items)) ∙ ap length c.items.invariant ∙ length-lists numbers 0 front in omega (arith, plain)) in
    c.in_ok-add_mentions.ensures
    ∙ (λ j. c.items.invariant j ++ lists_from numbers (count j) one)
    ∙ sym (lists-append numbers 0 front one)
    ∙ sym (ap (lists_from numbers 0) more)

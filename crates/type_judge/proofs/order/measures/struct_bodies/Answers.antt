use Rattle.std.proofs.Common.{◌≡◌, refl, ap, sym, ◌∙◌, arith, take, ◌++◌, [], ◌∷◌}
use Rattle.ir_syntax.specs.View.{item_view, items_view}
use Rattle.name_rules.specs.ModuleOf.{structs_in}
use Rattle.type_table.specs.Tree.{Structs}
use Rattle.type_judge.specs.Order.Measuring.{bodies_of}
use Rattle.type_judge.proofs.OnOrder.Gathered.{structs_more}
use Rattle.type_judge.proofs.order.measures.struct_bodies.Goals as goal

bodies-append : (xs ys : Structs) → bodies_of (xs ++ ys) ≡ bodies_of xs ++ bodies_of ys
bodies-append [] ys = refl
bodies-append (x ∷ xs) ys = ap (λ rest. x.1 ∷ rest) (bodies-append xs ys)

pub items-preserved : goal.items-preserved
items-preserved c =
    let front = structs_in (items_view (take c.items.item-index c.as_slice-item-items.result.now)) in
    let one = structs_in (item_view c.item-item.result ∷ []) in
    let more = structs_more c.as_slice-item-items.result.now c.items.item-index c.item-item.result (omega arith) c.item-item.is in
    c.in_ok-add_body.ensures ∙ ap (λ bs. bs ++ bodies_of one) c.items.invariant ∙ sym (bodies-append front one) ∙ sym (ap bodies_of more)

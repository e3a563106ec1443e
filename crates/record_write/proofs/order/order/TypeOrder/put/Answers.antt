use Rattle.std.proofs.Common.{◌≡◌, ℕ, ◌<◌, false, List, [], ◌∷◌, ◌++◌, length, get_or, set, Some, sym, subst, rules}
use Rattle.type_table.specs.Types.{tree}
use Rattle.record_write.specs.Order.Order.{Order, listed_trees, has_tree, HasParts}
use Rattle.record_write.specs.Order.Kept.{IsOrder}
use Rattle.record_write.proofs.OnOrder.OrderKept.{order_more}
use Rattle.record_write.proofs.order.order.TypeOrder.put.Goals as goal

pub invariant_of-self-2 : goal.invariant_of-self-2
invariant_of-self-2 c =
    let t = c.self.inside.table.now in
    let classes = c.self.inside.classes.items in
    let listed = c.self.inside.listed.items in
    let room = c.make_room.new.places.items in
    let class = c.class_at-class.result in
    let many : c.len-place.result ≡ length c.self.inside.listed.items = search rules in
    let at : c.class_at-class.result ≡ get_or c.self.inside.classes.items c.args.ty 0 = search rules in
    let lt : c.args.ty < length c.self.inside.table.now.types = subst (λ (o : Order). c.args.ty < length o.types.types) (sym c.self.view_is) c.requires.ty in
    let parts = subst (λ (o : Order). HasParts (listed_trees o) (tree o.types c.args.ty)) (sym c.self.view_is) c.requires.parts in
    let new = subst (λ (o : Order). has_tree (listed_trees o) (tree o.types c.args.ty) ≡ false) (sym c.self.view_is) c.requires.new in
    subst (λ (xs : List ℕ). IsOrder t classes (set room class (Some c.len-place.result)) xs) (sym c.in_ok-push.ensures.items)
    (subst (λ (n : ℕ). IsOrder t classes (set room class (Some n)) (listed ++ c.args.ty ∷ [])) (sym many)
    (order_more t classes c.self.inside.places.items listed c.self.inside.gone.items c.self.invariant c.args.ty class room lt at c.in_ok-make_room.ensures.room c.make_room.ensures.same parts new))

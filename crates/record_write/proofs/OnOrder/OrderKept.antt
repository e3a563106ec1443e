-- What is known of an order of types, and what is kept when one more is listed.
use Rattle.std.proofs.Common.{◌≡◌, ℕ, ◌<◌, ◌==◌, Bool, false, List, [], ◌∷◌, ◌++◌, length, map, get_or, set, All, Option, Some, None, refl, sym, ap, ◌∙◌, subst, arith, true≢false}
use Rattle.std.specs.Cmp.{unsigned_Decides}
use Rattle.std.specs.Option.{is_some}
use Rattle.std.proofs.lemmas.List.{get_or-set_same, get_or-set_other}
use Rattle.std.proofs.lemmas.List.{map-append, length-map}
use Rattle.std.proofs.lemmas.List.Elements.{All-push}
use Rattle.type_table.specs.Tree.{Tree}
use Rattle.type_table.specs.Types.{Types, tree}
use Rattle.module_arena.proofs.SameValues.{type_is}
use Rattle.entry_verify.specs.Types.Classes.{AreClasses}
use Rattle.record_write.specs.Order.Order.{Order, listed_trees, has_tree, place_in, place_of, HasParts, IsClosed}
use Rattle.record_write.specs.Order.Kept.{IsOrder}
use Rattle.record_write.proofs.OnOrder.Listing.{either, is_some_place, place_in_last, place_in_other, closed_push}

pub order_begun : (t : Types) (classes : List ℕ) → AreClasses t classes → IsOrder t classes [] []
order_begun t classes same = record {
  known = λ k d lt. absurd (omega arith);
  same = same;
  placed = λ ty lt. refl;
  closed = λ u h. absurd (true≢false (sym h));
}

module _ (t : Types) (classes : List ℕ) (places : List (Option ℕ)) (listed : List ℕ) (gone : List Bool) (h : IsOrder t classes places listed) where
  here : Order
  here = record { types = t; listed = listed; gone = gone }

  pub place_told : (o : Order) → record { types = t; listed = listed; gone = gone } ≡ o → (ty class : ℕ) (place : Option ℕ) → ty < length o.types.types → class ≡ get_or classes ty 0 → place ≡ get_or places class None → place ≡ place_of o ty
  place_told o view ty class place = subst (λ (x : Order). ty < length x.types.types → class ≡ get_or classes ty 0 → place ≡ get_or places class None → place ≡ place_of x ty) view
      (λ lt e f. f ∙ ap (λ (k : ℕ). get_or places k None) e ∙ h.placed ty lt)

  pub has_told : (o : Order) → record { types = t; listed = listed; gone = gone } ≡ o → (ty class : ℕ) (place : Option ℕ) → ty < length o.types.types → class ≡ get_or classes ty 0 → place ≡ get_or places class None → is_some place ≡ has_tree (listed_trees o) (tree o.types ty)
  has_told o view ty class place lt e f = ap is_some (place_told o view ty class place lt e f) ∙ is_some_place (listed_trees o) (tree o.types ty)

  pub closed_told : (o : Order) → record { types = t; listed = listed; gone = gone } ≡ o → IsClosed (listed_trees o)
  closed_told o view = subst (λ (x : Order). IsClosed (listed_trees x)) view h.closed

  pub known_told : (o : Order) → record { types = t; listed = listed; gone = gone } ≡ o → All (λ ty. ty < length o.types.types) o.listed
  known_told o view = subst (λ (x : Order). All (λ ty. ty < length x.types.types) x.listed) view h.known

  -- places that are the same everywhere
  pub order_same : (others : List (Option ℕ)) → ((k : ℕ) → get_or others k None ≡ get_or places k None) → IsOrder t classes others listed
  order_same others same = record {
    known = h.known;
    same = h.same;
    placed = λ ty lt. same (get_or classes ty 0) ∙ h.placed ty lt;
    closed = h.closed;
  }

  module _ (ty class : ℕ) (room : List (Option ℕ)) (lt : ty < length t.types) (at : class ≡ get_or classes ty 0) (within : class < length room)
      (same : (k : ℕ) → get_or room k None ≡ get_or places k None)
      (parts : HasParts (map (tree t) listed) (tree t ty)) (new : has_tree (map (tree t) listed) (tree t ty) ≡ false) where
    all : List Tree
    all = map (tree t) listed

    placed_more : (u : ℕ) → u < length t.types → get_or (set room class (Some (length listed))) (get_or classes u 0) None ≡ place_in (map (tree t) listed ++ tree t ty ∷ []) (tree t u)
    placed_more u lu = either (get_or classes u 0 == class) _
        (λ e. let is : get_or classes u 0 ≡ class = (unsigned_Decides (get_or classes u 0) class).0 e in
        let alike : tree t u ≡ tree t ty = type_is (tree t u) (tree t ty) (sym (h.same u ty lu lt) ∙ ap (λ (k : ℕ). get_or classes u 0 == k) (sym at) ∙ e) in
        ap (λ (k : ℕ). get_or (set room class (Some (length listed))) k None) is ∙ get_or-set_same room class (Some (length listed)) None within
        ∙ ap Some (sym (length-map listed (tree t))) ∙ sym (place_in_last (map (tree t) listed) (tree t ty) new)
        ∙ ap (place_in (map (tree t) listed ++ tree t ty ∷ [])) (sym alike))
        (λ e. get_or-set_other room class (get_or classes u 0) (Some (length listed)) None (λ is. true≢false (sym ((unsigned_Decides (get_or classes u 0) class).1 is) ∙ e))
        ∙ same (get_or classes u 0) ∙ h.placed u lu
        ∙ sym (place_in_other (map (tree t) listed) (tree t ty) (tree t u) (sym (h.same u ty lu lt) ∙ ap (λ (k : ℕ). get_or classes u 0 == k) (sym at) ∙ e)))

    pub order_more : IsOrder t classes (set room class (Some (length listed))) (listed ++ ty ∷ [])
    order_more = record {
      known = All-push (λ k. k < length t.types) listed ty h.known lt;
      same = h.same;
      placed = λ u lu. placed_more u lu ∙ ap (λ (xs : List Tree). place_in xs (tree t u)) (sym (map-append (tree t) listed (ty ∷ [])));
      closed = subst IsClosed (sym (map-append (tree t) listed (ty ∷ []))) (closed_push (map (tree t) listed) (tree t ty) h.closed parts);
    }

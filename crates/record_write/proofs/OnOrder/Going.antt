-- Parts of a module that are gone through one behind the other.
use Rattle.std.proofs.Common.{◌≡◌, ℕ, ◌+◌, ◌<◌, ◌≤◌, ◌==◌, All, Bool, true, false, List, [], ◌∷◌, ◌++◌, length, map, flat_map, take, get_or, set, slice_get, Some, Result, Ok, Err, OnOk, refl, sym, ap, ◌∙◌, subst, true≢false}
use Rattle.std.specs.Cmp.{unsigned_Decides}
use Rattle.std.specs.List.{fold}
use Rattle.std.proofs.lemmas.List.{take_all, get_or-set_other}
use Rattle.std.proofs.lemmas.List.Sums.{fold-append}
use Rattle.std.proofs.lemmas.Option.{get_or_from_slice_get, slice_get_within}
use Rattle.type_table.specs.Tree.{Tree}
use Rattle.type_table.specs.Types.{Types, tree}
use Rattle.module_arena.specs.Lists.{Lists}
use Rattle.record_table.specs.Mentions.{with_tree}
use Rattle.record_write.specs.Order.Order.{Order, listed_trees, has_tree, IsClosed, AllListed, Notes}
use Rattle.record_write.specs.Order.Written.{in_type, in_constant, IsReady, Goes}
use Rattle.record_write.proofs.OnOrder.Gaining.{flat_more}
use Rattle.record_write.proofs.OnOrder.Listing.{either, tree_keeps, tree_there, tree_stays}

fold_keeps : (xs all : List Tree) (u : Tree) → has_tree all u ≡ true → has_tree (fold (λ a t. with_tree t a) all xs) u ≡ true
fold_keeps [] all u h = h
fold_keeps (x ∷ xs) all u h = fold_keeps xs (with_tree x all) u (tree_keeps x all u h)

all_kept : (xs all ts : List Tree) → AllListed all ts → AllListed (fold (λ a t. with_tree t a) all xs) ts
all_kept xs all [] h = tt
all_kept xs all (t ∷ ts) h = (fold_keeps xs all t h.0, all_kept xs all ts h.1)

fold_lists : (ts all : List Tree) → AllListed (fold (λ a t. with_tree t a) all ts) ts
fold_lists [] all = tt
fold_lists (t ∷ ts) all = (fold_keeps ts (with_tree t all) t (tree_there t all), fold_lists ts (with_tree t all))

fold_stays : (all : List Tree) → IsClosed all → (ts : List Tree) → AllListed all ts → fold (λ a t. with_tree t a) all ts ≡ all
fold_stays all closed [] h = refl
fold_stays all closed (t ∷ ts) h = ap (λ (x : List Tree). fold (λ a u. with_tree u a) x ts) (tree_stays all closed t h.0) ∙ fold_stays all closed ts h.1

pub goes_none : {a : Lists} {o : Order} → IsReady a o → Goes a o o []
goes_none r = record { ready = r; listed = refl }

pub goes_same : {a : Lists} {o p : Order} {xs ys : List Tree} → xs ≡ ys → Goes a o p xs → Goes a o p ys
goes_same {a} {o} {p} e h = subst (λ (all : List Tree). Goes a o p all) e h

pub goes_then : {a : Lists} {o p q : Order} {xs ys : List Tree} → Goes a o p xs → Goes a p q ys → Goes a o q (xs ++ ys)
goes_then {a} {o} {p} {q} {xs} {ys} h k = record {
  ready = k.ready;
  listed = k.listed ∙ ap (λ (all : List Tree). fold (λ b t. with_tree t b) all ys) h.listed ∙ sym (fold-append (λ b t. with_tree t b) (listed_trees o) xs ys);
}

-- the last of several parts, which may fail
pub goes_end : {E : Type 0} {a : Lists} {o p : Order} {xs : List Tree} (q : Order) (ys zs all : List Tree) (r : Result (Unit {0}) E)
    → Goes a o p xs → ys ≡ zs → xs ++ zs ≡ all → OnOk r (Goes a p q ys) → OnOk r (Goes a o q all)
goes_end q ys zs all (Err e) h is whole k = tt
goes_end q ys zs all (Ok u) h is whole k = goes_same whole (goes_then h (goes_same is k))

-- one part, which may fail
pub goes_as : {E : Type 0} (a : Lists) (o p : Order) (ys zs : List Tree) (r : Result (Unit {0}) E) → ys ≡ zs → OnOk r (Goes a o p ys) → OnOk r (Goes a o p zs)
goes_as a o p ys zs (Err e) is h = tt
goes_as a o p ys zs (Ok u) is h = goes_same is h

-- the parts of one item more
pub goes_more : {X : Type 0} {a : Lists} {o p q : Order} (f : X → List Tree) (xs : List X) (i : ℕ) (x : X) → i < length xs → x ≡ get_or xs i x → Goes a o p (flat_map f (take i xs)) → Goes a p q (f x) → Goes a o q (flat_map f (take (i + 1) xs))
goes_more f xs i x lt is h k = goes_same (sym (flat_more f xs i x lt)) (goes_then h (goes_same (ap f is) k))

pub goes_at : {X : Type 0} {a : Lists} {o p q : Order} (f : X → List Tree) (xs : List X) (i : ℕ) (x : X) → slice_get xs i ≡ Some x → Goes a o p (flat_map f (take i xs)) → Goes a p q (f x) → Goes a o q (flat_map f (take (i + 1) xs))
goes_at f xs i x at h k = goes_more f xs i x (slice_get_within xs i x at) (sym (get_or_from_slice_get xs i x x at)) h k

pub goes_all : {X : Type 0} {a : Lists} {o p : Order} (f : X → List Tree) (xs : List X) (i : ℕ) → length xs ≤ i → Goes a o p (flat_map f (take i xs)) → Goes a o p (flat_map f xs)
goes_all f xs i le h = goes_same (ap (flat_map f) (take_all i xs le)) h

module _ (a : Lists) (o : Order) (r : IsReady a o) where
  pub known_type : (ty : ℕ) → ty < length a.table.types → ty < length o.types.types
  known_type ty lt = subst (λ (t : Types). ty < length t.types) (sym r.types) lt

  pub known_types : (ids : List ℕ) → All (λ ty. ty < length a.table.types) ids → All (λ ty. ty < length o.types.types) ids
  known_types ids h = subst (λ (t : Types). All (λ ty. ty < length t.types) ids) (sym r.types) h

  goes_note : (p : Order) (xs : List Tree) → Notes o p xs → Goes a o p xs
  goes_note p xs n = record {
    ready = record {
      types = n.types ∙ r.types;
      gone = λ id h. subst (λ (all : List Tree). AllListed all (in_constant a id)) (sym n.listed) (all_kept xs (listed_trees o) (in_constant a id) (r.gone id (ap (λ (g : List Bool). get_or g id false) (sym n.gone) ∙ h)));
    };
    listed = n.listed;
  }

  pub goes_type : (p : Order) (ty : ℕ) → Notes o p (tree o.types ty ∷ []) → Goes a o p (in_type a ty)
  goes_type p ty n = goes_same (ap (λ (t : Types). tree t ty ∷ []) r.types) (goes_note p (tree o.types ty ∷ []) n)

  pub goes_types : (p : Order) (ids : List ℕ) → Notes o p (map (tree o.types) ids) → Goes a o p (map (tree a.table) ids)
  goes_types p ids n = goes_same (ap (λ (t : Types). map (tree t) ids) r.types) (goes_note p (map (tree o.types) ids) n)

  -- a constant that was gone through adds nothing
  pub goes_gone : (id : ℕ) → IsClosed (listed_trees o) → get_or o.gone id false ≡ true → Goes a o o (in_constant a id)
  goes_gone id closed h = record { ready = r; listed = sym (fold_stays (listed_trees o) closed (in_constant a id) (r.gone id h)) }

-- from now on it was gone through
pub goes_mark : (a : Lists) (o p q : Order) (id : ℕ) → Goes a o p (in_constant a id) → q ≡ record p { gone = set p.gone id true } → Goes a o q (in_constant a id)
goes_mark a o p q id h e = subst (λ (x : Order). Goes a o x (in_constant a id)) (sym e) (record {
  ready = record { types = h.ready.types; gone = still };
  listed = h.listed;
})
  where
    still : (other : ℕ) → get_or (set p.gone id true) other false ≡ true → AllListed (listed_trees p) (in_constant a other)
    still other g = either (other == id) (AllListed (listed_trees p) (in_constant a other))
        (λ y. subst (λ (n : ℕ). AllListed (listed_trees p) (in_constant a n)) (sym ((unsigned_Decides other id).0 y))
        (subst (λ (all : List Tree). AllListed all (in_constant a id)) (sym h.listed) (fold_lists (in_constant a id) (listed_trees o))))
        (λ n. h.ready.gone other (sym (get_or-set_other p.gone id other true false (λ is. true≢false (sym ((unsigned_Decides other id).1 is) ∙ n))) ∙ g))

-- an order in which nothing is listed
pub ready_begun : (a : Lists) (o : Order) → o.types ≡ a.table → ((number : ℕ) → get_or o.gone number false ≡ false) → IsReady a o
ready_begun a o types none = record { types = types; gone = λ id h. absurd (true≢false (sym h ∙ none id)) }

-- the order with a constant marked
abbrev pub marked : Order → ℕ → Order
marked p id = record p { gone = set p.gone id true }

pub goes_marked : (a : Lists) (o p q : Order) (id number : ℕ) → Goes a o p (in_constant a id) → number ≡ id → q ≡ record p { gone = set p.gone number true } → Goes a o q (in_constant a id)
goes_marked a o p q id number h is e = goes_mark a o p q id h (e ∙ ap (marked p) is)

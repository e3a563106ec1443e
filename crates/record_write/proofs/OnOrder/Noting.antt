-- Types that are listed with their parts.
use Rattle.std.proofs.Common.{◌≡◌, ℕ, zero, suc, ◌+◌, ◌<◌, ◌≤◌, max, All, Bool, true, false, List, [], ◌∷◌, ◌++◌, length, map, take, get_or, slice_get, Some, Result, Ok, Err, OnOk, refl, sym, ap, ◌∙◌, subst, arith}
use Rattle.std.specs.List.{fold}
use Rattle.std.proofs.lemmas.List.{take_more, take_all, map-append}
use Rattle.std.proofs.lemmas.List.Sums.{fold-append}
use Rattle.std.proofs.lemmas.Option.{get_or_from_slice_get, slice_get_within}
use Rattle.type_table.specs.declared.ir_type.IrType.{IrType}
use Rattle.type_table.specs.declared.ir_type.IrType.TheVariants as type
use Rattle.type_table.specs.Tree.{Tree, array, struct}
use Rattle.type_table.specs.Types.{Types, IsGood, Knows, names, tree, trees, trees_at, tree_of}
use Rattle.type_table.proofs.Outlined.{tree-is, type_known}
use Rattle.record_table.specs.Mentions.{with_new, with_tree, with_trees}
use Rattle.record_write.specs.Order.Order.{Order, listed_trees, has_tree, AreListed, HasParts, IsClosed, Adds, Notes}
use Rattle.record_write.proofs.OnOrder.Listing.{new_known, new_other, tree_there, trees_there, tree_stays, fold_trees}

-- above all of them
abbrev pub top : List ℕ → ℕ
top [] = 0
top (part ∷ parts) = max (part + 1) (top parts)

pub below_top : (parts : List ℕ) (place d : ℕ) → place < length parts → get_or parts place d < top parts
below_top [] place d h = absurd (omega arith)
below_top (part ∷ parts) zero d h = omega arith
below_top (part ∷ parts) (suc place) d h = let again = below_top parts place d (omega (arith, h)) in omega (arith, again)

pub top_within : (parts : List ℕ) (bound : ℕ) → All (λ part. part < bound) parts → top parts ≤ bound
top_within [] bound h = omega arith
top_within (part ∷ parts) bound h =
    let again = top_within parts bound (λ k d lt. h (suc k) d (omega (arith, lt))) in
    let here = h 0 0 (omega arith) in
    omega (arith, again, here)

pub all_within : (parts : List ℕ) (bound larger : ℕ) → bound ≤ larger → All (λ part. part < bound) parts → All (λ part. part < larger) parts
all_within parts bound larger le h = λ k d lt. let here = h k d lt in omega (arith, here, le)

-- ---- one behind the other

pub notes_none : (o : Order) → Notes o o []
notes_none o = record { types = refl; gone = refl; listed = refl }

pub notes_then : {o p q : Order} {xs ys : List Tree} → Notes o p xs → Notes p q ys → Notes o q (xs ++ ys)
notes_then {o} {p} {q} {xs} {ys} h k = record {
  types = k.types ∙ h.types;
  gone = k.gone ∙ h.gone;
  listed = k.listed ∙ ap (λ (all : List Tree). fold (λ a t. with_tree t a) all ys) h.listed ∙ sym (fold-append (λ a t. with_tree t a) (listed_trees o) xs ys);
}

pub notes_same : {o p : Order} {xs ys : List Tree} → xs ≡ ys → Notes o p xs → Notes o p ys
notes_same {o} {p} e h = subst (λ (all : List Tree). Notes o p all) e h

-- the next of some types
pub notes_more : {o p q : Order} (t : Types) (ids : List ℕ) (i id : ℕ) → o.types ≡ t → i < length ids → id ≡ get_or ids i id
    → Notes o p (map (tree t) (take i ids)) → Notes p q (tree p.types id ∷ []) → Notes o q (map (tree t) (take (i + 1) ids))
notes_more t ids i id same lt is h k =
    notes_same (sym (map-append (tree t) (take i ids) (id ∷ [])) ∙ ap (λ (x : ℕ). map (tree t) (take i ids ++ x ∷ [])) is ∙ ap (map (tree t)) (sym (take_more ids i id lt)))
    (notes_then h (notes_same (ap (λ (u : Types). tree u id ∷ []) (h.types ∙ same)) k))

pub notes_all : {o p : Order} (t : Types) (ids : List ℕ) (i : ℕ) → length ids ≤ i → Notes o p (map (tree t) (take i ids)) → Notes o p (map (tree t) ids)
notes_all t ids i le h = notes_same (ap (map (tree t)) (take_all i ids le)) h

-- ---- one type

-- a type that is listed adds nothing
pub notes_known : (o : Order) (t : Tree) → IsClosed (listed_trees o) → has_tree (listed_trees o) t ≡ true → Notes o o (t ∷ [])
notes_known o t closed there = record { types = refl; gone = refl; listed = sym (tree_stays (listed_trees o) closed t there) }

-- nor does it add itself
pub adds_known : (o : Order) (t : Tree) → has_tree (listed_trees o) t ≡ true → Adds o o t
adds_known o t there = record { types = refl; gone = refl; listed = sym (new_known (listed_trees o) t there) }

pub adds_new : (o p : Order) (ty : ℕ) → has_tree (listed_trees o) (tree o.types ty) ≡ false → p ≡ record o { listed = o.listed ++ ty ∷ [] } → Adds o p (tree o.types ty)
adds_new o p ty new e = subst (λ (x : Order). Adds o x (tree o.types ty)) (sym e) (record {
  types = refl;
  gone = refl;
  listed = map-append (tree o.types) o.listed (ty ∷ []) ∙ sym (new_other (listed_trees o) (tree o.types ty) new);
})

module _ (o : Order) (t : Types) (same : t ≡ o.types) (good : IsGood t) (ty : ℕ) (x : IrType) (at : slice_get t.types ty ≡ Some x) where
  within : ty < length t.types
  within = slice_get_within t.types ty x at

  is_at : get_or t.types ty type.Void ≡ x
  is_at = get_or_from_slice_get t.types ty x type.Void at

  tree_here : tree t ty ≡ tree_of (names t) (trees t) x
  tree_here = tree-is t good ty within ∙ ap (tree_of (names t) (trees t)) is_at

  pub tree_at : tree o.types ty ≡ tree_of (names o.types) (trees o.types) x
  tree_at = subst (λ (u : Types). tree u ty ≡ tree_of (names u) (trees u) x) same tree_here

  pub knows_at : Knows ty (length t.structs) x
  knows_at = subst (Knows ty (length t.structs)) is_at (type_known t good ty within)

-- a type without parts
pub notes_leaf : {E : Type 0} (o q : Order) (ty : ℕ) (x : Tree) (r : Result (Unit {0}) E) → tree o.types ty ≡ x → ((all : List Tree) → with_tree x all ≡ with_new x all)
    → OnOk r (Adds o q (tree o.types ty)) → OnOk r (Notes o q (tree o.types ty ∷ []))
notes_leaf o q ty x (Err e) is leaf h = tt
notes_leaf o q ty x (Ok u) is leaf h = record {
  types = h.types;
  gone = h.gone;
  listed = h.listed ∙ ap (λ (y : Tree). with_new y (listed_trees o)) is ∙ sym (leaf (listed_trees o)) ∙ ap (λ (y : Tree). with_tree y (listed_trees o)) (sym is);
}

module _ (o p : Order) (ty : ℕ) where
  -- an array behind its elements' type
  module _ (n part : ℕ) (is : tree o.types ty ≡ array n (tree o.types part)) (h : Notes o p (tree o.types part ∷ [])) where
    pub array_parts : HasParts (listed_trees p) (tree p.types ty)
    array_parts = subst (HasParts (listed_trees p)) (sym (ap (λ (u : Types). tree u ty) h.types ∙ is))
        (subst (λ (all : List Tree). has_tree all (tree o.types part) ≡ true) (sym h.listed) (tree_there (tree o.types part) (listed_trees o)))

    pub notes_array : {E : Type 0} (q : Order) (r : Result (Unit {0}) E) → OnOk r (Adds p q (tree p.types ty)) → OnOk r (Notes o q (tree o.types ty ∷ []))
    notes_array q (Err e) k = tt
    notes_array q (Ok u) k = record {
      types = k.types ∙ h.types;
      gone = k.gone ∙ h.gone;
      listed = k.listed ∙ ap (λ (y : Tree). with_new y (listed_trees p)) (ap (λ (u : Types). tree u ty) h.types ∙ is) ∙ ap (with_new (array n (tree o.types part))) h.listed ∙ ap (λ (y : Tree). with_tree y (listed_trees o)) (sym is);
    }

  -- a struct behind its fields
  module _ (packed : Bool) (parts : List ℕ) (is : tree o.types ty ≡ struct packed (trees_at (trees o.types) parts)) (h : Notes o p (map (tree o.types) parts)) where
    listed_is : listed_trees p ≡ with_trees (trees_at (trees o.types) parts) (listed_trees o)
    listed_is = h.listed ∙ fold_trees o.types parts (listed_trees o)

    pub struct_parts : HasParts (listed_trees p) (tree p.types ty)
    struct_parts = subst (HasParts (listed_trees p)) (sym (ap (λ (u : Types). tree u ty) h.types ∙ is))
        (subst (λ (all : List Tree). AreListed all (trees_at (trees o.types) parts)) (sym listed_is) (trees_there (trees_at (trees o.types) parts) (listed_trees o)))

    pub notes_struct : {E : Type 0} (q : Order) (r : Result (Unit {0}) E) → OnOk r (Adds p q (tree p.types ty)) → OnOk r (Notes o q (tree o.types ty ∷ []))
    notes_struct q (Err e) k = tt
    notes_struct q (Ok u) k = record {
      types = k.types ∙ h.types;
      gone = k.gone ∙ h.gone;
      listed = k.listed ∙ ap (λ (y : Tree). with_new y (listed_trees p)) (ap (λ (u : Types). tree u ty) h.types ∙ is) ∙ ap (with_new (struct packed (trees_at (trees o.types) parts))) listed_is ∙ ap (λ (y : Tree). with_tree y (listed_trees o)) (sym is);
    }

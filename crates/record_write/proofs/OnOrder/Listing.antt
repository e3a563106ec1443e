-- Types that are listed behind their parts.
use Rattle.std.proofs.Common.{◌≡◌, ℕ, zero, suc, Bool, true, false, cond, ◌||◌, List, [], ◌∷◌, ◌++◌, length, map, get_or, Some, None, refl, sym, ap, ◌∙◌, subst, true≢false}
use Rattle.std.specs.List.{fold}
use Rattle.std.specs.Option.{is_some}
use Rattle.std.proofs.lemmas.Bool.{or_left, or_right}
use Rattle.std.proofs.lemmas.Bool.Decides.{same_from_decides}
use Rattle.type_table.specs.Tree.{Tree, int, ptr, void, array, struct, named, Trees, no_trees, more_trees}
use Rattle.type_table.specs.Types.{Types, tree, trees, trees_at}
use Rattle.module_arena.specs.Same.{same_type}
use Rattle.module_arena.proofs.SameValues.{same_type_decides, type_is, type_self}
use Rattle.record_table.specs.Layout.{place}
use Rattle.record_table.specs.Mentions.{with_new, with_tree, with_trees}
use Rattle.record_write.specs.Order.Order.{has_tree, place_in, AreListed, HasParts, IsClosed}

-- one of two holds
pub either : (b : Bool) → (P : Type 0) → (b ≡ true → P) → (b ≡ false → P) → P
either b P first second = elim b as (λ v. v ≡ b → P) [ true ↦ (λ e. first (sym e)) | false ↦ (λ e. second (sym e)) ] refl

pub push_default : {A : Type 0} (xs : List A) (d : A) (k : ℕ) → get_or (xs ++ d ∷ []) k d ≡ get_or xs k d
push_default [] d zero = refl
push_default [] d (suc k) = refl
push_default (x ∷ xs) d zero = refl
push_default (x ∷ xs) d (suc k) = push_default xs d k

-- ---- one more type at the end

pub has_kept : (all : List Tree) (t u : Tree) → has_tree all u ≡ true → has_tree (all ++ t ∷ []) u ≡ true
has_kept [] t u h = absurd (true≢false (sym h))
has_kept (y ∷ ys) t u h = elim (same_type u y) as (λ b. (b || has_tree ys u) ≡ true → (b || has_tree (ys ++ t ∷ []) u) ≡ true)
    [ true ↦ (λ k. refl) | false ↦ (λ k. has_kept ys t u k) ] h

pub has_last : (all : List Tree) (t : Tree) → has_tree (all ++ t ∷ []) t ≡ true
has_last [] t = or_left (same_type t t) false (type_self t)
has_last (y ∷ ys) t = or_right (same_type t y) (has_tree (ys ++ t ∷ []) t) (has_last ys t)

has_other : (all : List Tree) (t u : Tree) → same_type u t ≡ false → has_tree (all ++ t ∷ []) u ≡ has_tree all u
has_other [] t u apart = ap (λ (b : Bool). b || false) apart
has_other (y ∷ ys) t u apart = ap (λ (b : Bool). same_type u y || b) (has_other ys t u apart)

same_swap : (a b : Tree) → same_type a b ≡ same_type b a
same_swap a b = same_from_decides (same_type a b) (same_type b a) (same_type_decides a b) ((λ h. sym ((same_type_decides b a).0 h)), (λ e. (same_type_decides b a).1 (sym e)))

place_kept : (all : List Tree) (t u : Tree) → has_tree all u ≡ true → place same_type (all ++ t ∷ []) u ≡ place same_type all u
unfolding place
place_kept [] t u h = absurd (true≢false (sym h))
place_kept (y ∷ ys) t u h = elim (same_type y u) as (λ b. b ≡ same_type y u → cond b 0 (suc (place same_type (ys ++ t ∷ []) u)) ≡ cond b 0 (suc (place same_type ys u)))
    [ true ↦ (λ e. refl) | false ↦ (λ e. ap suc (place_kept ys t u (subst (λ (b : Bool). (b || has_tree ys u) ≡ true) (same_swap u y ∙ sym e) h))) ] refl

place_last : (all : List Tree) (t : Tree) → has_tree all t ≡ false → place same_type (all ++ t ∷ []) t ≡ length all
unfolding place
place_last [] t new = ap (λ (b : Bool). cond b 0 1) (type_self t)
place_last (y ∷ ys) t new = elim (same_type y t) as (λ b. b ≡ same_type y t → cond b 0 (suc (place same_type (ys ++ t ∷ []) t)) ≡ suc (length ys)) [
  | true ↦ (λ e. absurd (true≢false (sym (or_left (same_type t y) (has_tree ys t) (same_swap t y ∙ sym e)) ∙ new)))
  | false ↦ (λ e. ap suc (place_last ys t (sym (ap (λ (b : Bool). b || has_tree ys t) (same_swap t y ∙ sym e)) ∙ new)))
] refl

pub place_in_last : (all : List Tree) (t : Tree) → has_tree all t ≡ false → place_in (all ++ t ∷ []) t ≡ Some (length all)
place_in_last all t new = ap (λ (b : Bool). cond b (Some (place same_type (all ++ t ∷ []) t)) None) (has_last all t) ∙ ap Some (place_last all t new)

pub place_in_other : (all : List Tree) (t u : Tree) → same_type u t ≡ false → place_in (all ++ t ∷ []) u ≡ place_in all u
place_in_other all t u apart =
    ap (λ (b : Bool). cond b (Some (place same_type (all ++ t ∷ []) u)) None) (has_other all t u apart)
    ∙ (elim (has_tree all u) as (λ b. b ≡ has_tree all u → cond b (Some (place same_type (all ++ t ∷ []) u)) None ≡ cond b (Some (place same_type all u)) None)
    [ true ↦ (λ e. ap Some (place_kept all t u (sym e))) | false ↦ (λ e. refl) ] refl)

pub is_some_place : (all : List Tree) (t : Tree) → is_some (place_in all t) ≡ has_tree all t
is_some_place all t = elim (has_tree all t) as (λ b. is_some (cond b (Some (place same_type all t)) None) ≡ b) [ true ↦ refl | false ↦ refl ]

-- ---- one more type where it is new

pub new_known : (all : List Tree) (t : Tree) → has_tree all t ≡ true → with_new t all ≡ all
new_known all t h = ap (λ (b : Bool). cond b all (all ++ t ∷ [])) h

pub new_other : (all : List Tree) (t : Tree) → has_tree all t ≡ false → with_new t all ≡ all ++ t ∷ []
new_other all t h = ap (λ (b : Bool). cond b all (all ++ t ∷ [])) h

pub new_keeps : (all : List Tree) (t u : Tree) → has_tree all u ≡ true → has_tree (with_new t all) u ≡ true
new_keeps all t u h = either (has_tree all t) (has_tree (with_new t all) u ≡ true)
    (λ e. subst (λ (xs : List Tree). has_tree xs u ≡ true) (sym (new_known all t e)) h)
    (λ e. subst (λ (xs : List Tree). has_tree xs u ≡ true) (sym (new_other all t e)) (has_kept all t u h))

pub new_there : (all : List Tree) (t : Tree) → has_tree (with_new t all) t ≡ true
new_there all t = either (has_tree all t) (has_tree (with_new t all) t ≡ true)
    (λ e. subst (λ (xs : List Tree). has_tree xs t ≡ true) (sym (new_known all t e)) e)
    (λ e. subst (λ (xs : List Tree). has_tree xs t ≡ true) (sym (new_other all t e)) (has_last all t))

mutual
  pub tree_keeps : (t : Tree) (all : List Tree) (u : Tree) → has_tree all u ≡ true → has_tree (with_tree t all) u ≡ true
  tree_keeps (int w) all u h = new_keeps all (int w) u h
  tree_keeps ptr all u h = new_keeps all ptr u h
  tree_keeps void all u h = new_keeps all void u h
  tree_keeps (array n t) all u h = new_keeps (with_tree t all) (array n t) u (tree_keeps t all u h)
  tree_keeps (struct packed ts) all u h = new_keeps (with_trees ts all) (struct packed ts) u (trees_keep ts all u h)
  tree_keeps (named name) all u h = new_keeps all (named name) u h

  pub trees_keep : (ts : Trees) (all : List Tree) (u : Tree) → has_tree all u ≡ true → has_tree (with_trees ts all) u ≡ true
  trees_keep no_trees all u h = h
  trees_keep (more_trees t ts) all u h = trees_keep ts (with_tree t all) u (tree_keeps t all u h)

pub tree_there : (t : Tree) (all : List Tree) → has_tree (with_tree t all) t ≡ true
tree_there (int w) all = new_there all (int w)
tree_there ptr all = new_there all ptr
tree_there void all = new_there all void
tree_there (array n t) all = new_there (with_tree t all) (array n t)
tree_there (struct packed ts) all = new_there (with_trees ts all) (struct packed ts)
tree_there (named name) all = new_there all (named name)

pub trees_there : (ts : Trees) (all : List Tree) → AreListed (with_trees ts all) ts
trees_there no_trees all = tt
trees_there (more_trees t ts) all = (trees_keep ts (with_tree t all) t (tree_there t all), trees_there ts (with_tree t all))

-- ---- where parts are listed, a type that is listed adds nothing

mutual
  pub tree_stays : (all : List Tree) → IsClosed all → (t : Tree) → has_tree all t ≡ true → with_tree t all ≡ all
  tree_stays all closed (int w) h = new_known all (int w) h
  tree_stays all closed ptr h = new_known all ptr h
  tree_stays all closed void h = new_known all void h
  tree_stays all closed (array n t) h = ap (with_new (array n t)) (tree_stays all closed t (closed (array n t) h)) ∙ new_known all (array n t) h
  tree_stays all closed (struct packed ts) h = ap (with_new (struct packed ts)) (trees_stay all closed ts (closed (struct packed ts) h)) ∙ new_known all (struct packed ts) h
  tree_stays all closed (named name) h = new_known all (named name) h

  pub trees_stay : (all : List Tree) → IsClosed all → (ts : Trees) → AreListed all ts → with_trees ts all ≡ all
  trees_stay all closed no_trees h = refl
  trees_stay all closed (more_trees t ts) h = ap (with_trees ts) (tree_stays all closed t h.0) ∙ trees_stay all closed ts h.1

listed_kept : (all : List Tree) (t : Tree) (ts : Trees) → AreListed all ts → AreListed (all ++ t ∷ []) ts
listed_kept all t no_trees h = tt
listed_kept all t (more_trees u us) h = (has_kept all t u h.0, listed_kept all t us h.1)

parts_kept : (all : List Tree) (t u : Tree) → HasParts all u → HasParts (all ++ t ∷ []) u
parts_kept all t (int w) h = tt
parts_kept all t ptr h = tt
parts_kept all t void h = tt
parts_kept all t (array n u) h = has_kept all t u h
parts_kept all t (struct packed us) h = listed_kept all t us h
parts_kept all t (named name) h = tt

pub closed_push : (all : List Tree) (t : Tree) → IsClosed all → HasParts all t → IsClosed (all ++ t ∷ [])
closed_push all t closed parts = λ u h. either (same_type u t) (HasParts (all ++ t ∷ []) u)
    (λ e. subst (HasParts (all ++ t ∷ [])) (sym (type_is u t e)) (parts_kept all t t parts))
    (λ e. parts_kept all t u (closed u (sym (has_other all t u e) ∙ h)))

-- the types with some ids, one behind the other
pub fold_trees : (t : Types) (ids : List ℕ) (all : List Tree) → fold (λ xs x. with_tree x xs) all (map (tree t) ids) ≡ with_trees (trees_at (trees t) ids) all
fold_trees t [] all = refl
fold_trees t (id ∷ ids) all = fold_trees t ids (with_tree (tree t id) all)

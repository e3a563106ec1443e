-- Where no struct contains itself, each struct has a measure.
use Rattle.std.specs.Prelude.{◌≡◌, refl, ◌⊎◌, List, [], ◌∷◌, ◌++◌, Option, Some, None, option_map}
use Rattle.std.proofs.Common.{ap, sym, ◌∙◌, inl, inr}
use Rattle.type_table.specs.declared.measure.Measure.{Measure}
use Rattle.type_table.specs.Measures.{array_measure, struct_measure}
use Rattle.type_table.specs.Tree.{Tree, int, ptr, void, array, struct, named, Trees, no_trees, more_trees, TreeBody, opaque_body, fields}
use Rattle.module_arena.specs.Module.{Bytes}
use Rattle.name_rules.specs.Measured.{joined, tree_measured, all_measured, body_measured, names_in, all_names_in, body_names}

-- the name is one of these
abbrev pub Has : Bytes → List Bytes → Type 0
Has x [] = ⊥
Has x (y ∷ ys) = (x ≡ y) ⊎ Has x ys

pub in_first : (x : Bytes) (xs ys : List Bytes) → Has x xs → Has x (xs ++ ys)
in_first x [] ys h = absurd h
in_first x (y ∷ xs) ys (inl e) = inl e
in_first x (y ∷ xs) ys (inr h) = inr (in_first x xs ys h)

pub in_second : (x : Bytes) (xs ys : List Bytes) → Has x ys → Has x (xs ++ ys)
in_second x [] ys h = h
in_second x (y ∷ xs) ys h = inr (in_second x xs ys h)

in_either : (x : Bytes) (xs ys : List Bytes) → Has x (xs ++ ys) → Has x xs ⊎ Has x ys
in_either x [] ys h = inr h
in_either x (y ∷ xs) ys (inl e) = inl (inl e)
in_either x (y ∷ xs) ys (inr h) = by (in_either x xs ys h)
  where
    by : Has x xs ⊎ Has x ys → Has x (y ∷ xs) ⊎ Has x ys
    by (inl k) = inl (inr k)
    by (inr k) = inr k

mapped_none : {A B : Type 0} (f : A → B) (o : Option A) → option_map f o ≡ None → o ≡ None
mapped_none f None e = refl
mapped_none f (Some a) e = absurd cc

joined_none : (a : Option Measure) (b : Option (List Measure)) → joined a b ≡ None → (a ≡ None) ⊎ (b ≡ None)
joined_none None b e = inl refl
joined_none (Some m) None e = inr refl
joined_none (Some m) (Some ms) e = absurd cc

joined_second : (a : Option Measure) → joined a None ≡ None
joined_second None = refl
joined_second (Some m) = refl

module _ (f : Bytes → Option Measure) where
  mutual
    -- what has no measure holds a name that has none
    tree_lacks : (t : Tree) → tree_measured f t ≡ None → (n : Bytes) × Has n (names_in t) × (f n ≡ None)
    tree_lacks (int w) e = absurd cc
    tree_lacks ptr e = absurd cc
    tree_lacks void e = absurd cc
    tree_lacks (array n t) e = tree_lacks t (mapped_none (array_measure n) (tree_measured f t) e)
    tree_lacks (struct packed ts) e = trees_lack ts (mapped_none (struct_measure packed) (all_measured f ts) e)
    tree_lacks (named n) e = (n, inl refl, e)

    trees_lack : (ts : Trees) → all_measured f ts ≡ None → (n : Bytes) × Has n (all_names_in ts) × (f n ≡ None)
    trees_lack no_trees e = absurd cc
    trees_lack (more_trees t ts) e = either t ts (joined_none (tree_measured f t) (all_measured f ts) e) (λ q. tree_lacks t q) (λ q. trees_lack ts q)
      where
        either : (t : Tree) (ts : Trees) → (tree_measured f t ≡ None) ⊎ (all_measured f ts ≡ None)
            → (tree_measured f t ≡ None → (n : Bytes) × Has n (names_in t) × (f n ≡ None))
            → (all_measured f ts ≡ None → (n : Bytes) × Has n (all_names_in ts) × (f n ≡ None))
            → (n : Bytes) × Has n (names_in t ++ all_names_in ts) × (f n ≡ None)
        either t ts (inl q) one rest = let r = one q in (r.0, in_first r.0 (names_in t) (all_names_in ts) r.1, r.2)
        either t ts (inr q) one rest = let r = rest q in (r.0, in_second r.0 (names_in t) (all_names_in ts) r.1, r.2)

  pub body_lacks : (body : TreeBody) → body_measured f body ≡ None → (n : Bytes) × Has n (body_names body) × (f n ≡ None)
  body_lacks opaque_body e = absurd cc
  body_lacks (fields packed ts) e = trees_lack ts (mapped_none (struct_measure packed) (all_measured f ts) e)

  mutual
    -- and what holds one has none
    lacking_tree : (t : Tree) (n : Bytes) → Has n (names_in t) → f n ≡ None → tree_measured f t ≡ None
    lacking_tree (int w) n h e = absurd h
    lacking_tree ptr n h e = absurd h
    lacking_tree void n h e = absurd h
    lacking_tree (array k t) n h e = ap (option_map (array_measure k)) (lacking_tree t n h e)
    lacking_tree (struct packed ts) n h e = ap (option_map (struct_measure packed)) (lacking_trees ts n h e)
    lacking_tree (named k) n (inl q) e = ap f (sym q) ∙ e
    lacking_tree (named k) n (inr h) e = absurd h

    lacking_trees : (ts : Trees) (n : Bytes) → Has n (all_names_in ts) → f n ≡ None → all_measured f ts ≡ None
    lacking_trees no_trees n h e = absurd h
    lacking_trees (more_trees t ts) n h e = either (in_either n (names_in t) (all_names_in ts) h) (λ k. lacking_tree t n k e) (λ k. lacking_trees ts n k e)
      where
        either : Has n (names_in t) ⊎ Has n (all_names_in ts) → (Has n (names_in t) → tree_measured f t ≡ None) → (Has n (all_names_in ts) → all_measured f ts ≡ None)
            → joined (tree_measured f t) (all_measured f ts) ≡ None
        either (inl k) one rest = ap (λ a. joined a (all_measured f ts)) (one k)
        either (inr k) one rest = ap (joined (tree_measured f t)) (rest k) ∙ joined_second (tree_measured f t)

  pub lacking_body : (body : TreeBody) (n : Bytes) → Has n (body_names body) → f n ≡ None → body_measured f body ≡ None
  lacking_body opaque_body n h e = absurd h
  lacking_body (fields packed ts) n h e = ap (option_map (struct_measure packed)) (lacking_trees ts n h e)

-- Once as many passes were made as names stand in names, one pass more changes nothing.
use Rattle.std.proofs.Common.{◌≡◌, ℕ, zero, suc, List, ◌∷◌, Option, Some, None, ap, refl, sym, ◌∙◌}
use Rattle.type_table.specs.declared.measure.Measure.{Measure}
use Rattle.type_table.specs.Measures.{array_measure, struct_measure, tree_measure, tree_measures}
use Rattle.type_table.specs.Shape.{Label, Shape, array_of, struct_of, Shapes, expanded, all_expanded, body_shape, name_shape}
use Rattle.type_table.specs.Tree.{Tree, int, ptr, void, array, struct, named, Trees, no_trees, more_trees, TreeBody, opaque_body, fields}
use Rattle.type_table.proofs.Rooms.{name_shape-zero, name_shape-suc, unmapped, unjoined}

-- the measure of a body, where a struct without fields keeps the measure that it had
abbrev pub pass_measure : (List ℕ → Measure) → Measure → TreeBody → Measure
pass_measure look had opaque_body = had
pass_measure look had (fields packed ts) = struct_measure packed (tree_measures look ts)

module _ (f : List ℕ → Option Shape) (one other : List ℕ → Measure) (agree : (n : List ℕ) (x : Shape) → f n ≡ Some x → one n ≡ other n) where
  mutual
    trees_agree : (t : Tree) (x : Shape) → expanded f t ≡ Some x → tree_measure one t ≡ tree_measure other t
    trees_agree (int w) x e = refl
    trees_agree ptr x e = refl
    trees_agree void x e = refl
    trees_agree (array n t) x e = let inside = unmapped (array_of n) (expanded f t) x e in ap (array_measure n) (trees_agree t inside.0 inside.1)
    trees_agree (struct packed ts) x e =
        let inside = unmapped (struct_of None packed) (all_expanded f ts) x e in
        ap (struct_measure packed) (all_trees_agree ts inside.0 inside.1)
    trees_agree (named n) x e = agree n x e

    all_trees_agree : (ts : Trees) (xs : Shapes) → all_expanded f ts ≡ Some xs → tree_measures one ts ≡ tree_measures other ts
    all_trees_agree no_trees xs e = refl
    all_trees_agree (more_trees t ts) xs e =
        let inside = unjoined (expanded f t) (all_expanded f ts) xs e in
        λ j. trees_agree t inside.0 inside.2 j ∷ all_trees_agree ts inside.1 inside.3 j

abbrev pub Passes : (List ℕ → TreeBody) → (ℕ → List ℕ → Measure) → Type 0
Passes bodies looks = (k : ℕ) (n : List ℕ) → looks (suc k) n ≡ pass_measure (looks k) (looks k n) (bodies n)

module _ (label : List ℕ → Label) (bodies : List ℕ → TreeBody) where
  -- a struct without fields keeps its measure
  pub kept_measure : (looks : ℕ → List ℕ → Measure) → Passes bodies looks → (n : List ℕ) → bodies n ≡ opaque_body → (k : ℕ) → looks k n ≡ looks 0 n
  kept_measure looks pass n e zero = refl
  kept_measure looks pass n e (suc k) = pass k n ∙ ap (pass_measure (looks k) (looks k n)) e ∙ kept_measure looks pass n e k

  module _ (looks others : ℕ → List ℕ → Measure) (pass : Passes bodies looks) (pass_others : Passes bodies others)
      (start : (n : List ℕ) → bodies n ≡ opaque_body → looks 0 n ≡ others 0 n) where
    -- as many passes as there is room give the same wherever they began
    same_passes : (room : ℕ) (n : List ℕ) (x : Shape) → name_shape label bodies room n ≡ Some x → looks room n ≡ others room n
    same_passes zero n x e = let none = name_shape-zero label bodies n in cc
    same_passes (suc room) n x e = pass room n ∙ by (same_passes room) (bodies n) refl ∙ sym (pass_others room n)
      where
        by : ((m : List ℕ) (y : Shape) → name_shape label bodies room m ≡ Some y → looks room m ≡ others room m)
            → (body : TreeBody) → bodies n ≡ body → pass_measure (looks room) (looks room n) (bodies n) ≡ pass_measure (others room) (others room n) (bodies n)
        by rest opaque_body q =
            ap (pass_measure (looks room) (looks room n)) q
            ∙ kept_measure looks pass n q room ∙ start n q ∙ sym (kept_measure others pass_others n q room)
            ∙ sym (ap (pass_measure (others room) (others room n)) q)
        by rest (fields packed ts) q =
            let shaped = sym (name_shape-suc label bodies room n ∙ ap (body_shape (name_shape label bodies room) (label n)) q) ∙ e in
            let inside = unmapped (struct_of (label n) packed) (all_expanded (name_shape label bodies room) ts) x shaped in
            ap (pass_measure (looks room) (looks room n)) q
            ∙ ap (struct_measure packed) (all_trees_agree (name_shape label bodies room) (looks room) (others room) rest ts inside.0 inside.1)
            ∙ sym (ap (pass_measure (others room) (others room n)) q)

  pub settled : (looks : ℕ → List ℕ → Measure) → Passes bodies looks → (room : ℕ) (n : List ℕ) (x : Shape) → name_shape label bodies room n ≡ Some x
      → looks room n ≡ pass_measure (looks room) (looks room n) (bodies n)
  settled looks pass room n x e =
      same_passes looks (λ k. looks (suc k)) pass (λ k. pass (suc k)) (λ m q. sym (kept_measure looks pass m q 1)) room n x e ∙ pass room n

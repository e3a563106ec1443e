-- A struct that had no fields is given some: which measures change, and when it contains itself.
use Rattle.std.proofs.Common.{◌≡◌, ℕ, zero, suc, ◌+◌, ◌≤◌, ◌<◌, Bool, true, false, List, [], ◌∷◌, Option, Some, None, ◌⊎◌, inl, inr, bytes_eq, ap, refl, sym, ◌∙◌, subst, arith}
use Rattle.std.specs.List.{fold}
use Rattle.std.specs.Cmp.Lexicographic.{bytes_decides}
use Rattle.type_table.specs.declared.measure.Measure.{Measure}
use Rattle.type_table.specs.Contains.{Holds, holds_as_itself, holds_in_array, holds_in_struct, holds_in_body, SomeHolds, first_holds, later_holds, BodyHolds}
use Rattle.type_table.specs.Measures.{array_measure, empty_struct, with_field, struct_measure, tree_measure, tree_measures, tree_body_measure, Measures, capped_nesting}
use Rattle.type_table.specs.Shape.{Label, Shape, array_of, struct_of, Shapes, expanded, all_expanded, body_shape, name_shape}
use Rattle.type_table.specs.Tree.{Tree, int, ptr, void, array, struct, named, Trees, no_trees, more_trees, TreeBody, opaque_body, fields}
use Rattle.type_table.proofs.Rooms.{name_shape-zero, name_shape-suc, unmapped, unjoined, fields_nesting}

-- some of these nests at least so deep
abbrev SomeAbove : ℕ → List Measure → Type 0
SomeAbove r [] = ⊥
SomeAbove r (m ∷ ms) = (r ≤ m.nesting) ⊎ SomeAbove r ms

fields_above : (packed : Bool) (acc : Measure) (ms : List Measure) (r : ℕ) → SomeAbove r ms → capped_nesting (r + 1) ≤ (fold (with_field packed) acc ms).nesting
fields_above packed acc [] r some = absurd some
fields_above packed acc (m ∷ ms) r (inl le) =
    let rest = fields_nesting packed (with_field packed acc m) ms in
    let here : capped_nesting (m.nesting + 1) ≤ (with_field packed acc m).nesting = omega arith in
    omega (arith, rest, here, le)
fields_above packed acc (m ∷ ms) r (inr some) = fields_above packed (with_field packed acc m) ms r some

struct_above : (packed : Bool) (ms : List Measure) (r : ℕ) → SomeAbove r ms → capped_nesting (r + 1) ≤ (struct_measure packed ms).nesting
struct_above packed ms r some = fields_above packed empty_struct ms r some

-- whether two names are the same
pub same_name : (a b : List ℕ) → (a ≡ b) ⊎ (a ≡ b → ⊥)
same_name a b = by (bytes_eq a b) refl
  where
    by : (r : Bool) → bytes_eq a b ≡ r → (a ≡ b) ⊎ (a ≡ b → ⊥)
    by true e = inl ((bytes_decides a b).0 e)
    by false e = inr (λ p. let t = (bytes_decides a b).1 p in cc)

module _ (bodies : List ℕ → TreeBody) (name : List ℕ) (look : List ℕ → Measure) (small : (look name).nesting ≤ 255)
    (measures : (n : List ℕ) → (n ≡ name → ⊥) → look n ≡ tree_body_measure look (bodies n)) where
  outer_above : (outer : List ℕ) (packed : Bool) (ts : Trees) → bodies outer ≡ fields packed ts → SomeAbove (look name).nesting (tree_measures look ts) → (look name).nesting ≤ (look outer).nesting
  outer_above outer packed ts e some = by (same_name outer name)
    where
      by : (outer ≡ name) ⊎ (outer ≡ name → ⊥) → (look name).nesting ≤ (look outer).nesting
      by (inl p) = let q = ap (λ n. (look n).nesting) p in omega (arith, q)
      by (inr other) =
          let q = ap (λ (m : Measure). m.nesting) (measures outer other ∙ ap (tree_body_measure look) e) in
          let deep = struct_above packed (tree_measures look ts) (look name).nesting some in
          omega (arith, q, deep)

  mutual
    -- what holds a struct nests other less deep
    pub holder_nesting : {t : Tree} → Holds bodies name t → (look name).nesting ≤ (tree_measure look t).nesting
    holder_nesting holds_as_itself = omega arith
    holder_nesting (holds_in_array h) = let r = holder_nesting h in omega (arith, r)
    holder_nesting (holds_in_struct {packed = packed} {ts = ts} some) = let deep = struct_above packed (tree_measures look ts) (look name).nesting (holder_above some) in omega (arith, deep)
    holder_nesting (holds_in_body {outer = outer} {packed = packed} {ts = ts} e some) = outer_above outer packed ts e (holder_above some)

    pub holder_above : {ts : Trees} → SomeHolds bodies name ts → SomeAbove (look name).nesting (tree_measures look ts)
    holder_above (first_holds h) = inl (holder_nesting h)
    holder_above (later_holds some) = inr (holder_above some)

  -- so the fields of a struct that contains itself nest deeper than it
  pub holder_fields : (packed : Bool) (ts : Trees) → SomeHolds bodies name ts → capped_nesting ((look name).nesting + 1) ≤ (struct_measure packed (tree_measures look ts)).nesting
  holder_fields packed ts some = struct_above packed (tree_measures look ts) (look name).nesting (holder_above some)

-- The table before has the bodies `bodies` and measures `look`. Then the struct `name`, which had no fields, has the body that
-- `after` gives; `new` measures every other struct, and gives the struct what its body measures by `look`.
module _ (label : List ℕ → Label) (bodies after : List ℕ → TreeBody) (name : List ℕ) (look new : List ℕ → Measure)
    (before : bodies name ≡ opaque_body) (same : (n : List ℕ) → (n ≡ name → ⊥) → after n ≡ bodies n)
    (is : Measures bodies look) (others : (n : List ℕ) → (n ≡ name → ⊥) → new n ≡ tree_body_measure new (bodies n))
    (here : new name ≡ tree_body_measure look (after name)) where
  abbrev Same : Tree → Type 0
  Same t = (tree_measure new t ≡ tree_measure look t) ⊎ Holds after name t

  abbrev AllSame : Trees → Type 0
  AllSame ts = (tree_measures new ts ≡ tree_measures look ts) ⊎ SomeHolds after name ts

  module _ (f : List ℕ → Option Shape) (names_same : (n : List ℕ) (x : Shape) → f n ≡ Some x → Same (named n)) where
    mutual
      tree_same : (t : Tree) (x : Shape) → expanded f t ≡ Some x → Same t
      tree_same (int w) x e = inl refl
      tree_same ptr x e = inl refl
      tree_same void x e = inl refl
      tree_same (array n t) x e =
          let inside = unmapped (array_of n) (expanded f t) x e in
          elim (tree_same t inside.0 inside.1) [ inl p ↦ inl (ap (array_measure n) p) | inr h ↦ inr (holds_in_array h) ]
      tree_same (struct packed ts) x e =
          let inside = unmapped (struct_of None packed) (all_expanded f ts) x e in
          elim (trees_same ts inside.0 inside.1) [ inl p ↦ inl (ap (struct_measure packed) p) | inr h ↦ inr (holds_in_struct h) ]
      tree_same (named n) x e = names_same n x e

      trees_same : (ts : Trees) (xs : Shapes) → all_expanded f ts ≡ Some xs → AllSame ts
      trees_same no_trees xs e = inl refl
      trees_same (more_trees t ts) xs e =
          let inside = unjoined (expanded f t) (all_expanded f ts) xs e in
          joined (tree_same t inside.0 inside.2) (trees_same ts inside.1 inside.3)
        where
          joined : Same t → AllSame ts → AllSame (more_trees t ts)
          joined (inl p) (inl q) = inl (λ j. p j ∷ q j)
          joined (inl p) (inr h) = inr (later_holds h)
          joined (inr h) r = inr (first_holds h)

  name_same : (room : ℕ) (n : List ℕ) (x : Shape) → name_shape label bodies room n ≡ Some x → Same (named n)
  name_same zero n x e = let none = name_shape-zero label bodies n in cc
  name_same (suc room) n x e =
      by (λ ts xs q. trees_same (name_shape label bodies room) (name_same room) ts xs q) (same_name n name) (bodies n) refl
    where
      by : ((ts : Trees) (xs : Shapes) → all_expanded (name_shape label bodies room) ts ≡ Some xs → AllSame ts)
          → (n ≡ name) ⊎ (n ≡ name → ⊥) → (body : TreeBody) → bodies n ≡ body → Same (named n)
      by rest (inl p) body q = inr (subst (λ m. Holds after name (named m)) (sym p) holds_as_itself)
      by rest (inr other) opaque_body q = inl (others n other ∙ ap (tree_body_measure new) q ∙ sym (is n ∙ ap (tree_body_measure look) q))
      by rest (inr other) (fields packed ts) q =
          let shaped = sym (name_shape-suc label bodies room n ∙ ap (body_shape (name_shape label bodies room) (label n)) q) ∙ e in
          let inside = unmapped (struct_of (label n) packed) (all_expanded (name_shape label bodies room) ts) x shaped in
          elim (rest ts inside.0 inside.1) [
            | inl p ↦ inl (others n other ∙ ap (tree_body_measure new) q ∙ ap (struct_measure packed) p ∙ sym (is n ∙ ap (tree_body_measure look) q))
            | inr h ↦ inr (holds_in_body (same n other ∙ q) h)
          ]

  -- either the measures of the fields have not changed, or a field holds the struct
  pub body_same : (room : ℕ) (packed : Bool) (ts : Trees) (xs : Shapes) → all_expanded (name_shape label bodies room) ts ≡ Some xs → AllSame ts
  body_same room packed ts xs e = trees_same (name_shape label bodies room) (name_same room) ts xs e

  abbrev pub HaveShapes : ℕ → TreeBody → Type 0
  HaveShapes room opaque_body = Unit {0}
  HaveShapes room (fields packed ts) = (xs : Shapes) × (all_expanded (name_shape label bodies room) ts ≡ Some xs)

  others_after : (n : List ℕ) → (n ≡ name → ⊥) → new n ≡ tree_body_measure new (after n)
  others_after n other = others n other ∙ ap (tree_body_measure new) (sym (same n other))

  -- where the struct nests as deep by the new measures as by the old ones, the new ones are those of the new table
  pub measures_after : (room : ℕ) → HaveShapes room (after name) → (new name).nesting < 255
      → (tree_body_measure new (after name)).nesting ≡ (new name).nesting → Measures after new
  measures_after room shaped small deep n = by (same_name n name)
    where
      body_is : (body : TreeBody) → after name ≡ body → HaveShapes room body → tree_body_measure look body ≡ tree_body_measure new body
      body_is opaque_body q s = refl
      body_is (fields packed ts) q s =
          elim (body_same room packed ts s.0 s.1) [
            | inl p ↦ ap (struct_measure packed) (sym p)
            | inr h ↦
                (let above = holder_fields after name new (omega arith) others_after packed ts h in
                let r = sym (ap (λ body. (tree_body_measure new body).nesting) q) ∙ deep in
                absurd (omega (arith, above, r)))
          ]

      by : (n ≡ name) ⊎ (n ≡ name → ⊥) → new n ≡ tree_body_measure new (after n)
      by (inl p) = ap new p ∙ here ∙ body_is (after name) refl shaped ∙ ap (λ m. tree_body_measure new (after m)) (sym p)
      by (inr other) = others_after n other

  -- where it does not, it contains itself
  pub contains_itself : (room : ℕ) → HaveShapes room (after name) → ((tree_body_measure new (after name)).nesting ≡ (new name).nesting → ⊥) → BodyHolds after name (after name)
  contains_itself room shaped deep = by (after name) refl shaped
    where
      by : (body : TreeBody) → after name ≡ body → HaveShapes room body → BodyHolds after name body
      by opaque_body q s = absurd (deep (ap (λ body. (tree_body_measure new body).nesting) q ∙ sym (ap (λ (m : Measure). m.nesting) here ∙ ap (λ body. (tree_body_measure look body).nesting) q)))
      by (fields packed ts) q s =
          elim (body_same room packed ts s.0 s.1) [
            | inl p ↦ absurd (deep (ap (λ body. (tree_body_measure new body).nesting) q ∙ ap (λ ms. (struct_measure packed ms).nesting) p ∙ sym (ap (λ (m : Measure). m.nesting) here ∙ ap (λ body. (tree_body_measure look body).nesting) q)))
            | inr h ↦ h
          ]

-- where all names measure what they stand for, no struct contains itself
pub never_contains_itself : (bodies : List ℕ → TreeBody) (look : List ℕ → Measure) → Measures bodies look → (name : List ℕ) → (look name).nesting < 255 → BodyHolds bodies name (bodies name) → ⊥
never_contains_itself bodies look is name small = by (bodies name) refl
  where
    by : (body : TreeBody) → bodies name ≡ body → BodyHolds bodies name body → ⊥
    by opaque_body q h = h
    by (fields packed ts) q h =
        let above = holder_fields bodies name look (omega arith) (λ n _. is n) packed ts h in
        let r = ap (λ (m : Measure). m.nesting) (is name ∙ ap (tree_body_measure look) q) in
        omega (arith, above, r)

-- measures that nest no more than 64 deeper, one by one
abbrev Near : List Measure → List Measure → Type 0
Near [] ns = Unit {0}
Near (m ∷ ms) [] = ⊥
Near (m ∷ ms) (n ∷ ns) = (m.nesting ≤ n.nesting + 64) × Near ms ns

near_fields : (packed : Bool) (a b : Measure) (ms ns : List Measure) → a.nesting ≤ b.nesting + 64 → Near ms ns → (fold (with_field packed) a ms).nesting ≤ (fold (with_field packed) b ns).nesting + 64
near_fields packed a b [] ns le near = let more = fields_nesting packed b ns in omega (arith, more, le)
near_fields packed a b (m ∷ ms) [] le near = absurd near
near_fields packed a b (m ∷ ms) (n ∷ ns) le near =
    let here : (with_field packed a m).nesting ≤ (with_field packed b n).nesting + 64 = omega (arith, le, near.0) in
    near_fields packed (with_field packed a m) (with_field packed b n) ms ns here near.1

module _ (f : List ℕ → Option Shape) (look new : List ℕ → Measure) (names_near : (n : List ℕ) (x : Shape) → f n ≡ Some x → (new n).nesting ≤ (look n).nesting + 64) where
  mutual
    tree_near : (t : Tree) (x : Shape) → expanded f t ≡ Some x → (tree_measure new t).nesting ≤ (tree_measure look t).nesting + 64
    tree_near (int w) x e = omega arith
    tree_near ptr x e = omega arith
    tree_near void x e = omega arith
    tree_near (array n t) x e =
        let inside = unmapped (array_of n) (expanded f t) x e in
        let r = tree_near t inside.0 inside.1 in
        omega (arith, r)
    tree_near (struct packed ts) x e =
        let inside = unmapped (struct_of None packed) (all_expanded f ts) x e in
        near_fields packed empty_struct empty_struct (tree_measures new ts) (tree_measures look ts) (omega arith) (trees_near ts inside.0 inside.1)
    tree_near (named n) x e = names_near n x e

    trees_near : (ts : Trees) (xs : Shapes) → all_expanded f ts ≡ Some xs → Near (tree_measures new ts) (tree_measures look ts)
    trees_near no_trees xs e = tt
    trees_near (more_trees t ts) xs e =
        let inside = unjoined (expanded f t) (all_expanded f ts) xs e in
        (tree_near t inside.0 inside.2, trees_near ts inside.1 inside.3)

module _ (label : List ℕ → Label) (bodies : List ℕ → TreeBody) (name : List ℕ) (look new : List ℕ → Measure)
    (is : Measures bodies look) (others : (n : List ℕ) → (n ≡ name → ⊥) → new n ≡ tree_body_measure new (bodies n))
    (small : (new name).nesting ≤ (look name).nesting + 64) where
  -- a struct that nests up to 64 deeper makes what holds it nest no more than 64 deeper
  pub name_near : (room : ℕ) (n : List ℕ) (x : Shape) → name_shape label bodies room n ≡ Some x → (new n).nesting ≤ (look n).nesting + 64
  name_near zero n x e = let none = name_shape-zero label bodies n in cc
  name_near (suc room) n x e = by (λ ts xs q. trees_near (name_shape label bodies room) look new (name_near room) ts xs q) (same_name n name) (bodies n) refl
    where
      by : ((ts : Trees) (xs : Shapes) → all_expanded (name_shape label bodies room) ts ≡ Some xs → Near (tree_measures new ts) (tree_measures look ts))
          → (n ≡ name) ⊎ (n ≡ name → ⊥) → (body : TreeBody) → bodies n ≡ body → (new n).nesting ≤ (look n).nesting + 64
      by rest (inl p) body q = subst (λ m. (new m).nesting ≤ (look m).nesting + 64) (sym p) small
      by rest (inr other) opaque_body q =
          let a = ap (λ (m : Measure). m.nesting) (others n other ∙ ap (tree_body_measure new) q) in
          let b = ap (λ (m : Measure). m.nesting) (is n ∙ ap (tree_body_measure look) q) in
          omega (arith, a, b)
      by rest (inr other) (fields packed ts) q =
          let shaped = sym (name_shape-suc label bodies room n ∙ ap (body_shape (name_shape label bodies room) (label n)) q) ∙ e in
          let inside = unmapped (struct_of (label n) packed) (all_expanded (name_shape label bodies room) ts) x shaped in
          let a = ap (λ (m : Measure). m.nesting) (others n other ∙ ap (tree_body_measure new) q) in
          let b = ap (λ (m : Measure). m.nesting) (is n ∙ ap (tree_body_measure look) q) in
          let near = near_fields packed empty_struct empty_struct (tree_measures new ts) (tree_measures look ts) (omega arith) (rest ts inside.0 inside.1) in
          omega (arith, a, b, near)

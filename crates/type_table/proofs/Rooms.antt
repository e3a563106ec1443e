-- Where each name measures what it stands for, what has a shape measures what its shape does, and what nests no deeper than the
-- room has a shape in it.
use Rattle.std.proofs.Common.{◌≡◌, ℕ, zero, suc, ◌+◌, ◌≤◌, ◌<◌, Bool, List, [], ◌∷◌, Option, Some, None, ap, refl, sym, ◌∙◌, subst, arith}
use Rattle.std.specs.List.{fold}
use Rattle.std.specs.Option.{option_map}
use Rattle.std.proofs.lemmas.Option.{same_Some}
use Rattle.type_table.specs.declared.measure.Measure.{Measure}
use Rattle.type_table.specs.Shape.{Label, Shape, int_leaf, ptr_leaf, void_leaf, array_of, struct_of, opaque_leaf, Shapes, no_shapes, more_shapes, with_first, expanded, all_expanded, body_shape, name_shape}
use Rattle.type_table.specs.Tree.{Tree, int, ptr, void, array, struct, named, Trees, no_trees, more_trees, TreeBody, opaque_body, fields}
use Rattle.type_table.specs.Measures.{measure, array_measure, empty_struct, with_field, struct_measure, tree_measure, tree_measures, tree_body_measure, Measures, capped_nesting}
use Rattle.type_table.proofs.ShapeMeasures.{shape_measures, measure-array, measure-struct}

-- what a mapped option and a first with a rest were made of
pub unmapped : {A B : Type 0} (f : A → B) (o : Option A) (y : B) → option_map f o ≡ Some y → (x : A) × (o ≡ Some x) × (f x ≡ y)
unmapped f None y e = cc
unmapped f (Some x) y e = (x, refl, cc)

pub unjoined : (a : Option Shape) (b : Option Shapes) (ys : Shapes) → with_first a b ≡ Some ys → (s : Shape) × (ss : Shapes) × (a ≡ Some s) × (b ≡ Some ss) × (more_shapes s ss ≡ ys)
unjoined None b ys e = cc
unjoined (Some s) None ys e = cc
unjoined (Some s) (Some ss) ys e = (s, ss, refl, refl, cc)

module _ (label : List ℕ → Label) (bodies : List ℕ → TreeBody) where
  pub name_shape-zero : (name : List ℕ) → name_shape label bodies zero name ≡ None
  unfolding name_shape
  name_shape-zero name = refl

  pub name_shape-suc : (room : ℕ) (name : List ℕ) → name_shape label bodies (suc room) name ≡ body_shape (name_shape label bodies room) (label name) (bodies name)
  unfolding name_shape
  name_shape-suc room name = refl

module _ (f : List ℕ → Option Shape) (look : List ℕ → Measure) (same : (n : List ℕ) (x : Shape) → f n ≡ Some x → measure x ≡ look n) where
  mutual
    tree_shape_measure : (t : Tree) (x : Shape) → expanded f t ≡ Some x → measure x ≡ tree_measure look t
    tree_shape_measure (int w) x e = ap measure (sym (same_Some (int_leaf w) x e))
    tree_shape_measure ptr x e = ap measure (sym (same_Some ptr_leaf x e))
    tree_shape_measure void x e = ap measure (sym (same_Some void_leaf x e))
    tree_shape_measure (array n t) x e =
        let inside = unmapped (array_of n) (expanded f t) x e in
        ap measure (sym inside.2) ∙ measure-array n inside.0 ∙ ap (array_measure n) (tree_shape_measure t inside.0 inside.1)
    tree_shape_measure (struct packed ts) x e =
        let inside = unmapped (struct_of None packed) (all_expanded f ts) x e in
        ap measure (sym inside.2) ∙ measure-struct None packed inside.0 ∙ ap (struct_measure packed) (trees_shape_measures ts inside.0 inside.1)
    tree_shape_measure (named n) x e = same n x e

    trees_shape_measures : (ts : Trees) (xs : Shapes) → all_expanded f ts ≡ Some xs → shape_measures xs ≡ tree_measures look ts
    trees_shape_measures no_trees xs e = ap shape_measures (sym (same_Some no_shapes xs e))
    trees_shape_measures (more_trees t ts) xs e =
        let inside = unjoined (expanded f t) (all_expanded f ts) xs e in
        ap shape_measures (sym inside.4) ∙ (λ j. tree_shape_measure t inside.0 inside.2 j ∷ trees_shape_measures ts inside.1 inside.3 j)

  body_shape_measure : (label : Label) (body : TreeBody) (x : Shape) → body_shape f label body ≡ Some x → measure x ≡ tree_body_measure look body
  body_shape_measure label opaque_body x e = ap measure (sym (same_Some (opaque_leaf label) x e))
  body_shape_measure label (fields packed ts) x e =
      let inside = unmapped (struct_of label packed) (all_expanded f ts) x e in
      ap measure (sym inside.2) ∙ measure-struct label packed inside.0 ∙ ap (struct_measure packed) (trees_shape_measures ts inside.0 inside.1)

-- each of these nests below the number
abbrev pub AllBelow : ℕ → List Measure → Type 0
AllBelow r [] = Unit {0}
AllBelow r (m ∷ ms) = (m.nesting + 1 ≤ r) × AllBelow r ms

pub fields_nesting : (packed : Bool) (acc : Measure) (ms : List Measure) → acc.nesting ≤ (fold (with_field packed) acc ms).nesting
fields_nesting packed acc [] = omega arith
fields_nesting packed acc (m ∷ ms) =
    let rest = fields_nesting packed (with_field packed acc m) ms in
    let here : acc.nesting ≤ (with_field packed acc m).nesting = omega arith in
    omega (arith, rest, here)

fields_below : (packed : Bool) (acc : Measure) (ms : List Measure) (r : ℕ) → r < 255 → (fold (with_field packed) acc ms).nesting ≤ r → AllBelow r ms
fields_below packed acc [] r small le = tt
fields_below packed acc (m ∷ ms) r small le =
    let rest = fields_nesting packed (with_field packed acc m) ms in
    let here : capped_nesting (m.nesting + 1) ≤ (with_field packed acc m).nesting = omega arith in
    (omega (arith, rest, here), fields_below packed (with_field packed acc m) ms r small le)

-- what nests no deeper than a number has fields that nest below it
pub struct_below : (packed : Bool) (ms : List Measure) (r : ℕ) → r < 255 → (struct_measure packed ms).nesting ≤ r → AllBelow r ms
struct_below packed ms r small le = fields_below packed empty_struct ms r small le

pub struct_nesting : (packed : Bool) (ms : List Measure) → 1 ≤ (struct_measure packed ms).nesting
struct_nesting packed ms = fields_nesting packed empty_struct ms

-- a struct nests no deeper than one more than its fields may
pub struct_at_most : (packed : Bool) (ms : List Measure) (r : ℕ) → AllBelow (r + 1) ms → (struct_measure packed ms).nesting ≤ r + 1
struct_at_most packed ms r below = by empty_struct ms (omega arith) below
  where
    by : (acc : Measure) (ns : List Measure) → acc.nesting ≤ r + 1 → AllBelow (r + 1) ns → (fold (with_field packed) acc ns).nesting ≤ r + 1
    by acc [] le b = le
    by acc (n ∷ ns) le b = by (with_field packed acc n) ns (omega (arith, le, b.0)) b.1

abbrev pub HasShape : Option Shape → Type 0
HasShape o = (x : Shape) × (o ≡ Some x)

abbrev pub HasShapes : Option Shapes → Type 0
HasShapes o = (xs : Shapes) × (o ≡ Some xs)

module _ (f : List ℕ → Option Shape) (look : List ℕ → Measure) (room : ℕ) (small : room < 255) (there : (n : List ℕ) → (look n).nesting ≤ room → HasShape (f n)) where
  mutual
    pub tree_has_shape : (t : Tree) → (tree_measure look t).nesting ≤ room → HasShape (expanded f t)
    tree_has_shape (int w) le = (int_leaf w, refl)
    tree_has_shape ptr le = (ptr_leaf, refl)
    tree_has_shape void le = (void_leaf, refl)
    tree_has_shape (array n t) le =
        let inside = tree_has_shape t (omega arith) in
        (array_of n inside.0, ap (option_map (array_of n)) inside.1)
    tree_has_shape (struct packed ts) le =
        let inside = trees_have_shapes room ts (struct_below packed (tree_measures look ts) room small le) (omega arith) in
        (struct_of None packed inside.0, ap (option_map (struct_of None packed)) inside.1)
    tree_has_shape (named n) le = there n le

    pub trees_have_shapes : (r : ℕ) (ts : Trees) → AllBelow r (tree_measures look ts) → r ≤ room + 1 → HasShapes (all_expanded f ts)
    trees_have_shapes r no_trees below le = (no_shapes, refl)
    trees_have_shapes r (more_trees t ts) below le =
        let first = tree_has_shape t (omega arith) in
        let rest = trees_have_shapes r ts below.1 le in
        (more_shapes first.0 rest.0, λ j. with_first (first.1 j) (rest.1 j))

body_has_shape : (f : List ℕ → Option Shape) (look : List ℕ → Measure) (room : ℕ) → suc room < 255 → ((n : List ℕ) → (look n).nesting ≤ room → HasShape (f n))
    → (label : Label) (body : TreeBody) → (tree_body_measure look body).nesting ≤ suc room → HasShape (body_shape f label body)
body_has_shape f look room small there label opaque_body le = (opaque_leaf label, refl)
body_has_shape f look room small there label (fields packed ts) le =
    let below = struct_below packed (tree_measures look ts) (suc room) small le in
    let inside = trees_have_shapes f look room (omega arith) there (suc room) ts below (omega arith) in
    (struct_of label packed inside.0, ap (option_map (struct_of label packed)) inside.1)

module _ (label : List ℕ → Label) (bodies : List ℕ → TreeBody) (look : List ℕ → Measure) (is : Measures bodies look) where
  -- what is kept of a name is what is kept of its shape
  name_measure : (room : ℕ) (name : List ℕ) (x : Shape) → name_shape label bodies room name ≡ Some x → measure x ≡ look name
  name_measure zero name x e = let none = name_shape-zero label bodies name in cc
  name_measure (suc room) name x e =
      body_shape_measure (name_shape label bodies room) look (name_measure room) (label name) (bodies name) x (sym (name_shape-suc label bodies room name) ∙ e)
      ∙ sym (is name)

  -- what is kept of a type is what is kept of its shape
  pub shape_measure : (room : ℕ) (t : Tree) (x : Shape) → expanded (name_shape label bodies room) t ≡ Some x → measure x ≡ tree_measure look t
  shape_measure room t x e = tree_shape_measure (name_shape label bodies room) look (name_measure room) t x e

  name_has_shape : (room : ℕ) (name : List ℕ) → room < 255 → (look name).nesting ≤ room → HasShape (name_shape label bodies room name)
  name_has_shape zero name small le = by (bodies name) (is name)
    where
      by : (body : TreeBody) → look name ≡ tree_body_measure look body → HasShape (name_shape label bodies zero name)
      by opaque_body q = let n = ap (λ (m : Measure). m.nesting) q in absurd (omega (arith, n))
      by (fields packed ts) q =
          let n = ap (λ (m : Measure). m.nesting) q in
          let some = struct_nesting packed (tree_measures look ts) in
          absurd (omega (arith, n, some))
  name_has_shape (suc room) name small le =
      let n = ap (λ (m : Measure). m.nesting) (is name) in
      subst HasShape (sym (name_shape-suc label bodies room name))
      (body_has_shape (name_shape label bodies room) look room small (λ m k. name_has_shape room m (omega arith) k) (label name) (bodies name) (omega (arith, n)))

  -- a type that nests no deeper than the room has a shape in it
  pub has_shape : (room : ℕ) (t : Tree) → room < 255 → (tree_measure look t).nesting ≤ room → HasShape (expanded (name_shape label bodies room) t)
  has_shape room t small le = tree_has_shape (name_shape label bodies room) look room small (λ m k. name_has_shape room m small k) t le

-- Structs of which some have no body yet: their shapes are no deeper and no larger than those of the whole.
use Rattle.std.proofs.Common.{◌≡◌, ◌⊎◌, inl, inr, ℕ, zero, suc, ◌^◌, ◌≤◌, Bool, true, List, Option, Some, None, refl, sym, ap, ◌∙◌, subst, arith}
use Rattle.std.specs.Option.{option_map}
use Rattle.std.proofs.lemmas.Bool.{and_parts}
use Rattle.type_table.specs.Layout.{has_layout, have_layouts, size}
use Rattle.type_table.specs.Limits.{IsWithinLimits, Fits, array_length}
use Rattle.type_table.specs.Shape.{Shape, int_leaf, ptr_leaf, void_leaf, opaque_leaf, array_of, struct_of, Shapes, no_shapes, more_shapes, Label, with_first, expanded, all_expanded, body_shape, name_shape, shape, nesting, deepest, parts, all_parts}
use Rattle.type_table.specs.Tree.{Tree, int, ptr, void, array, struct, named, Trees, no_trees, more_trees, TreeBody, opaque_body, fields, Structs, body_of}
use Rattle.module_arena.proofs.Found.{some-equal as some_shape}

-- each name stands for what it does in the whole, or for nothing that is known
abbrev pub AreLess : Structs → Structs → Type 0
AreLess part whole = (name : List ℕ) → (body_of part name ≡ opaque_body) ⊎ (body_of part name ≡ body_of whole name)

-- the second shape is no deeper and no larger than the first
record IsLess (x y : Shape) : Type 0 where
  nests : nesting y ≤ nesting x
  parts_less : parts y ≤ parts x
  length_less : array_length y ≤ array_length x
  same : has_layout y ≡ true → y ≡ x

record AllLess (xs ys : Shapes) : Type 0 where
  nest : deepest ys ≤ deepest xs
  parts_less : all_parts ys ≤ all_parts xs
  same : have_layouts ys ≡ true → ys ≡ xs

itself : (x : Shape) → IsLess x x
itself x = record { nests = omega arith; parts_less = omega arith; length_less = omega arith; same = λ e. refl }

less_array : (n : ℕ) (x y : Shape) → IsLess x y → IsLess (array_of n x) (array_of n y)
less_array n x y h = let nests = h.nests in let parts = h.parts_less in
    record { nests = omega (arith, nests); parts_less = omega (arith, parts); length_less = omega arith; same = λ e. ap (array_of n) (h.same e) }

less_struct : (label : Label) (packed : Bool) (xs ys : Shapes) → AllLess xs ys → IsLess (struct_of label packed xs) (struct_of label packed ys)
less_struct label packed xs ys h = let nest = h.nest in let parts = h.parts_less in
    record { nests = omega (arith, nest); parts_less = omega (arith, parts); length_less = omega arith; same = λ e. ap (struct_of label packed) (h.same e) }

less_more : (x y : Shape) (xs ys : Shapes) → IsLess x y → AllLess xs ys → AllLess (more_shapes x xs) (more_shapes y ys)
less_more x y xs ys h hs = let one = h.nests in let rest = hs.nest in let part = h.parts_less in let parts = hs.parts_less in
    record {
      nest = omega (arith, one, rest);
      parts_less = omega (arith, part, parts);
      same = λ e. let both = and_parts (has_layout y) (have_layouts ys) e in λ j. more_shapes (h.same both.0 j) (hs.same both.1 j);
    }

-- a struct that has no body yet
less_opaque : (label : Label) (packed : Bool) (xs : Shapes) → IsLess (struct_of label packed xs) (opaque_leaf label)
less_opaque label packed xs = record { nests = omega arith; parts_less = omega arith; length_less = omega arith; same = λ e. absurd cc }

fits_less : (x y : Shape) → IsLess x y → Fits x → Fits y
fits_less x y h fits =
    let nests = h.nests in
    let parts = h.parts_less in
    let long = h.length_less in
    let deep_fits = fits.nests in
    let parts_fit = fits.parts_fit in
    let length_fits = fits.length_fits in
    record {
      nests = omega (arith, nests, deep_fits);
      parts_fit = omega (arith, parts, parts_fit);
      length_fits = omega (arith, long, length_fits);
      size_fits = λ e. let same = h.same e in subst (λ z. size z ≤ 2 ^ 40) (sym same) (fits.size_fits (ap has_layout (sym same) ∙ e));
    }

-- the shape is there, and less
abbrev Lesser : Shape → Option Shape → Type 0
Lesser x o = (y : Shape) × (o ≡ Some y) × IsLess x y

abbrev AllLesser : Shapes → Option Shapes → Type 0
AllLesser xs o = (ys : Shapes) × (o ≡ Some ys) × AllLess xs ys

module _ (part whole : List ℕ → Option Shape) (less : (n : List ℕ) (x : Shape) → whole n ≡ Some x → Lesser x (part n)) where
  array_lesser : (n : ℕ) (o p : Option Shape) → ((z : Shape) → o ≡ Some z → Lesser z p) → (x : Shape) → option_map (array_of n) o ≡ Some x → Lesser x (option_map (array_of n) p)
  array_lesser n None p h x e = absurd cc
  array_lesser n (Some z) p h x e =
      let inner = h z refl in
      (array_of n inner.0, ap (option_map (array_of n)) inner.1, subst (λ w. IsLess w (array_of n inner.0)) (some_shape e) (less_array n z inner.0 inner.2))

  struct_lesser : (label : Label) (packed : Bool) (o p : Option Shapes) → ((zs : Shapes) → o ≡ Some zs → AllLesser zs p) → (x : Shape) → option_map (struct_of label packed) o ≡ Some x → Lesser x (option_map (struct_of label packed) p)
  struct_lesser label packed None p h x e = absurd cc
  struct_lesser label packed (Some zs) p h x e =
      let inner = h zs refl in
      (struct_of label packed inner.0, ap (option_map (struct_of label packed)) inner.1, subst (λ w. IsLess w (struct_of label packed inner.0)) (some_shape e) (less_struct label packed zs inner.0 inner.2))

  first_lesser : (o p : Option Shape) (os ps : Option Shapes) → ((z : Shape) → o ≡ Some z → Lesser z p) → ((zs : Shapes) → os ≡ Some zs → AllLesser zs ps) → (xs : Shapes) → with_first o os ≡ Some xs → AllLesser xs (with_first p ps)
  first_lesser None p os ps h hs xs e = absurd cc
  first_lesser (Some z) p None ps h hs xs e = absurd cc
  first_lesser (Some z) p (Some zs) ps h hs xs e =
      let one = h z refl in
      let more = hs zs refl in
      (more_shapes one.0 more.0, (λ j. with_first (one.1 j) (more.1 j)), subst (λ w. AllLess w (more_shapes one.0 more.0)) (some_shape e) (less_more z one.0 zs more.0 one.2 more.2))

  mutual
    expanded_less : (t : Tree) (x : Shape) → expanded whole t ≡ Some x → Lesser x (expanded part t)
    expanded_less (int w) x e = (int_leaf w, refl, subst (λ z. IsLess z (int_leaf w)) (some_shape e) (itself (int_leaf w)))
    expanded_less ptr x e = (ptr_leaf, refl, subst (λ z. IsLess z ptr_leaf) (some_shape e) (itself ptr_leaf))
    expanded_less void x e = (void_leaf, refl, subst (λ z. IsLess z void_leaf) (some_shape e) (itself void_leaf))
    expanded_less (array n t) x e = array_lesser n (expanded whole t) (expanded part t) (expanded_less t) x e
    expanded_less (struct packed ts) x e = struct_lesser None packed (all_expanded whole ts) (all_expanded part ts) (all_expanded_less ts) x e
    expanded_less (named n) x e = less n x e

    all_expanded_less : (ts : Trees) (xs : Shapes) → all_expanded whole ts ≡ Some xs → AllLesser xs (all_expanded part ts)
    all_expanded_less no_trees xs e = (no_shapes, refl, subst (λ z. AllLess z no_shapes) (some_shape e) (record { nest = omega arith; parts_less = omega arith; same = λ s. refl }))
    all_expanded_less (more_trees t ts) xs e = first_lesser (expanded whole t) (expanded part t) (all_expanded whole ts) (all_expanded part ts) (expanded_less t) (all_expanded_less ts) xs e

  -- of a struct with the same body
  body_less : (label : Label) (body : TreeBody) (x : Shape) → body_shape whole label body ≡ Some x → Lesser x (body_shape part label body)
  body_less label opaque_body x e = (opaque_leaf label, refl, subst (λ z. IsLess z (opaque_leaf label)) (some_shape e) (itself (opaque_leaf label)))
  body_less label (fields packed ts) x e = struct_lesser label packed (all_expanded whole ts) (all_expanded part ts) (all_expanded_less ts) x e

  -- of a struct without a body
  opaque_less : (label : Label) (body : TreeBody) (x : Shape) → body_shape whole label body ≡ Some x → IsLess x (opaque_leaf label)
  opaque_less label opaque_body x e = subst (λ z. IsLess z (opaque_leaf label)) (some_shape e) (itself (opaque_leaf label))
  opaque_less label (fields packed ts) x e = by (all_expanded whole ts) e
    where
      by : (o : Option Shapes) → option_map (struct_of label packed) o ≡ Some x → IsLess x (opaque_leaf label)
      by None q = absurd cc
      by (Some xs) q = subst (λ z. IsLess z (opaque_leaf label)) (some_shape q) (less_opaque label packed xs)

abbrev unlabelled : List ℕ → Label
unlabelled name = None

module _ (part whole : Structs) (less : AreLess part whole) where
  name_less : (room : ℕ) (n : List ℕ) (x : Shape) → name_shape unlabelled (body_of whole) room n ≡ Some x → Lesser x (name_shape unlabelled (body_of part) room n)
  unfolding name_shape
  name_less zero n x e = absurd cc
  name_less (suc room) n x e = by (body_of part n) (less n) refl (name_less room)
    where
      by : (body : TreeBody) → (body ≡ opaque_body) ⊎ (body ≡ body_of whole n) → body_of part n ≡ body
          → ((m : List ℕ) (z : Shape) → name_shape unlabelled (body_of whole) room m ≡ Some z → Lesser z (name_shape unlabelled (body_of part) room m))
          → Lesser x (body_shape (name_shape unlabelled (body_of part) room) None (body_of part n))
      by body (inl q) is before =
          (opaque_leaf None, ap (body_shape (name_shape unlabelled (body_of part) room) None) (is ∙ q), opaque_less (name_shape unlabelled (body_of part) room) (name_shape unlabelled (body_of whole) room) before None (body_of whole n) x e)
      by body (inr q) is before =
          subst (λ b. Lesser x (body_shape (name_shape unlabelled (body_of part) room) None b)) (sym (is ∙ q)) (body_less (name_shape unlabelled (body_of part) room) (name_shape unlabelled (body_of whole) room) before None (body_of whole n) x e)

  -- a type that is within the limits of the whole is within those of the part
  pub within_less : (t : Tree) → IsWithinLimits (shape whole t) → IsWithinLimits (shape part t)
  within_less t within = by (shape whole t) refl within
    where
      by : (o : Option Shape) → shape whole t ≡ o → IsWithinLimits o → IsWithinLimits (shape part t)
      by None e h = absurd h
      by (Some x) e h =
          let lesser = expanded_less (name_shape unlabelled (body_of part) 64) (name_shape unlabelled (body_of whole) 64) (name_less 64) t x e in
          subst IsWithinLimits (sym lesser.1) (fits_less x lesser.0 lesser.2 h)

-- A table in which a struct has no body yet is within the limits where the table is that has it: a body makes no shape less.
use Rattle.std.proofs.Common.{◌≡◌, ◌≢◌, ℕ, zero, suc, ◌+◌, ◌^◌, ◌≤◌, ◌<◌, Bool, true, true≢false, List, [], ◌++◌, Option, Some, None, ◌⊎◌, inl, inr, map, length, get_or, slice_get, ap, refl, sym, ◌∙◌, subst, arith, All}
use Rattle.std.specs.Option.{option_map}
use Rattle.std.proofs.lemmas.Bool.{and_parts}
use Rattle.std.proofs.lemmas.List.{length-map, length-set, get_or-set_other}
use Rattle.std.proofs.lemmas.Option.{get_or_from_slice_get, same_Some}
use Rattle.type_table.specs.declared.ir_type.StructBody.{StructBody}
use Rattle.type_table.specs.Contains.{Holds, holds_as_itself, holds_in_array, holds_in_struct, holds_in_body, SomeHolds, first_holds, later_holds, BodyHolds}
use Rattle.type_table.specs.Layout.{has_layout, have_layouts, size}
use Rattle.type_table.specs.Limits.{Fits, IsWithin, IsWithinLimits, SomeContainsItself, all_shapes, array_length}
use Rattle.type_table.specs.Shape.{Label, Shape, int_leaf, ptr_leaf, void_leaf, opaque_leaf, array_of, struct_of, Shapes, no_shapes, more_shapes, with_first, expanded, all_expanded, body_shape, name_shape, nesting, deepest, parts, all_parts}
use Rattle.type_table.specs.Shape as shapes
use Rattle.type_table.specs.Tree.{Tree, int, ptr, void, array, struct, named, Trees, no_trees, more_trees, TreeBody, opaque_body, fields, body_of, index_of}
use Rattle.type_table.specs.Types.{Types, IsGood, names, bodies, trees, structs, tree_body, with_body}
use Rattle.type_table.proofs.Defined.{names-defined, bodies-defined, trees-defined}
use Rattle.type_table.proofs.Judged.{All-through}
use Rattle.type_table.proofs.Redefined.{same_name}
use Rattle.type_table.proofs.Rooms.{name_shape-zero, name_shape-suc, unmapped, unjoined}
use Rattle.type_table.proofs.UnderIds.{index_of-at, index_of-found, body_of-place}

-- ---- shapes

-- no deeper, no longer and of no more parts; the same where it lies in memory
record Less (x y : Shape) : Type 0 where
  nests : nesting x ≤ nesting y
  fewer : parts x ≤ parts y
  long : array_length x ≤ array_length y
  same : has_layout x ≡ true → x ≡ y

record AllLess (xs ys : Shapes) : Type 0 where
  nests : deepest xs ≤ deepest ys
  fewer : all_parts xs ≤ all_parts ys
  same : have_layouts xs ≡ true → xs ≡ ys

abbrev HasLess : Option Shape → Shape → Type 0
HasLess o y = (x : Shape) × (o ≡ Some x) × Less x y

abbrev HasAllLess : Option Shapes → Shapes → Type 0
HasAllLess o ys = (xs : Shapes) × (o ≡ Some xs) × AllLess xs ys

less_refl : (x : Shape) → Less x x
less_refl x = record { nests = omega arith; fewer = omega arith; long = omega arith; same = λ laid. refl }

alike : (x y : Shape) → Some x ≡ Some y → Less x y
alike x y e = subst (Less x) (same_Some x y e) (less_refl x)

array_less : (n : ℕ) (x s y : Shape) → Less x s → array_of n s ≡ y → Less (array_of n x) y
array_less n x s y less e =
    subst (Less (array_of n x)) e (record { nests = omega (arith, less.nests); fewer = omega (arith, less.fewer); long = omega arith; same = λ laid. ap (array_of n) (less.same laid) })

struct_less : (label : Label) (packed : Bool) (xs ss : Shapes) (y : Shape) → AllLess xs ss → struct_of label packed ss ≡ y → Less (struct_of label packed xs) y
struct_less label packed xs ss y less e =
    subst (Less (struct_of label packed xs)) e (record { nests = omega (arith, less.nests); fewer = omega (arith, less.fewer); long = omega arith; same = λ laid. ap (struct_of label packed) (less.same laid) })

more_less : (x s : Shape) (xs ss ys : Shapes) → Less x s → AllLess xs ss → more_shapes s ss ≡ ys → AllLess (more_shapes x xs) ys
more_less x s xs ss ys first rest e =
    subst (AllLess (more_shapes x xs)) e (record {
      nests = omega (arith, first.nests, rest.nests);
      fewer = omega (arith, first.fewer, rest.fewer);
      same = λ laid. let both = and_parts (has_layout x) (have_layouts xs) laid in (λ j. more_shapes (first.same both.0 j) (rest.same both.1 j));
    })

opaque_less : (g : List ℕ → Option Shape) (label : Label) (body : TreeBody) (y : Shape) → body_shape g label body ≡ Some y → Less (opaque_leaf label) y
opaque_less g label opaque_body y e = alike (opaque_leaf label) y e
opaque_less g label (fields packed ts) y e =
    let inside = unmapped (struct_of label packed) (all_expanded g ts) y e in
    subst (Less (opaque_leaf label)) inside.2 (record { nests = omega arith; fewer = omega arith; long = omega arith; same = λ laid. absurd (true≢false (sym laid)) })

module _ (f g : List ℕ → Option Shape) (less : (n : List ℕ) (y : Shape) → g n ≡ Some y → HasLess (f n) y) where
  mutual
    tree_less : (t : Tree) (y : Shape) → expanded g t ≡ Some y → HasLess (expanded f t) y
    tree_less (int w) y e = (int_leaf w, refl, alike (int_leaf w) y e)
    tree_less ptr y e = (ptr_leaf, refl, alike ptr_leaf y e)
    tree_less void y e = (void_leaf, refl, alike void_leaf y e)
    tree_less (array n t) y e =
        let inside = unmapped (array_of n) (expanded g t) y e in
        let one = tree_less t inside.0 inside.1 in
        (array_of n one.0, ap (option_map (array_of n)) one.1, array_less n one.0 inside.0 y one.2 inside.2)
    tree_less (struct packed ts) y e =
        let inside = unmapped (struct_of None packed) (all_expanded g ts) y e in
        let some = trees_less ts inside.0 inside.1 in
        (struct_of None packed some.0, ap (option_map (struct_of None packed)) some.1, struct_less None packed some.0 inside.0 y some.2 inside.2)
    tree_less (named n) y e = less n y e

    trees_less : (ts : Trees) (ys : Shapes) → all_expanded g ts ≡ Some ys → HasAllLess (all_expanded f ts) ys
    trees_less no_trees ys e = (no_shapes, refl, subst (AllLess no_shapes) (same_Some no_shapes ys e) (record { nests = omega arith; fewer = omega arith; same = λ laid. refl }))
    trees_less (more_trees t ts) ys e =
        let inside = unjoined (expanded g t) (all_expanded g ts) ys e in
        let first = tree_less t inside.0 inside.2 in
        let rest = trees_less ts inside.1 inside.3 in
        (more_shapes first.0 rest.0, λ j. with_first (first.1 j) (rest.1 j), more_less first.0 inside.0 rest.0 inside.1 ys first.2 rest.2 inside.4)

  body_less : (label : Label) (body : TreeBody) (y : Shape) → body_shape g label body ≡ Some y → HasLess (body_shape f label body) y
  body_less label opaque_body y e = (opaque_leaf label, refl, alike (opaque_leaf label) y e)
  body_less label (fields packed ts) y e =
      let inside = unmapped (struct_of label packed) (all_expanded g ts) y e in
      let some = trees_less ts inside.0 inside.1 in
      (struct_of label packed some.0, ap (option_map (struct_of label packed)) some.1, struct_less label packed some.0 inside.0 y some.2 inside.2)

fits_less : (x y : Shape) → Less x y → Fits y → Fits x
fits_less x y less fits = record {
  nests = omega (arith, less.nests, fits.nests);
  parts_fit = omega (arith, less.fewer, fits.parts_fit);
  length_fits = omega (arith, less.long, fits.length_fits);
  size_fits = λ laid.
      let same = less.same laid in
      subst (λ (s : Shape). size s ≤ 2 ^ 40) (sym same) (fits.size_fits (sym (ap has_layout same) ∙ laid));
}

-- ---- names: `after` gives the struct `name`, which had no body, one, and all others what `bodies` does

module _ (label : List ℕ → Label) (bodies after : List ℕ → TreeBody) (name : List ℕ) (before : bodies name ≡ opaque_body)
    (same : (n : List ℕ) → (n ≡ name → ⊥) → after n ≡ bodies n) where
  name_less : (room : ℕ) (n : List ℕ) (y : Shape) → name_shape label after room n ≡ Some y → HasLess (name_shape label bodies room n) y
  name_less zero n y e = let none = name_shape-zero label after n in cc
  name_less (suc room) n y e = by (name_less room) (same_name n name) (sym (name_shape-suc label after room n) ∙ e)
    where
      by : ((m : List ℕ) (z : Shape) → name_shape label after room m ≡ Some z → HasLess (name_shape label bodies room m) z)
          → (n ≡ name) ⊎ (n ≡ name → ⊥) → body_shape (name_shape label after room) (label n) (after n) ≡ Some y → HasLess (name_shape label bodies (suc room) n) y
      by rest (inl p) q =
          (opaque_leaf (label n), name_shape-suc label bodies room n ∙ ap (body_shape (name_shape label bodies room) (label n)) (ap bodies p ∙ before), opaque_less (name_shape label after room) (label n) (after n) y q)
      by rest (inr other) q =
          let inside = body_less (name_shape label bodies room) (name_shape label after room) rest (label n) (bodies n) y (ap (body_shape (name_shape label after room) (label n)) (sym (same n other)) ∙ q) in
          (inside.0, name_shape-suc label bodies room n ∙ inside.1, inside.2)

  tree_before : (t : Tree) → IsWithinLimits (expanded (name_shape label after 64) t) → IsWithinLimits (expanded (name_shape label bodies 64) t)
  tree_before t = by (expanded (name_shape label after 64) t) refl
    where
      by : (o : Option Shape) → expanded (name_shape label after 64) t ≡ o → IsWithinLimits o → IsWithinLimits (expanded (name_shape label bodies 64) t)
      by None e within = absurd within
      by (Some y) e within =
          let less = tree_less (name_shape label bodies 64) (name_shape label after 64) (name_less 64) t y e in
          subst IsWithinLimits (sym less.1) (fits_less less.0 y less.2 within)

  -- what held a struct still does
  defined_same : (outer : List ℕ) (packed : Bool) (ts : Trees) → bodies outer ≡ fields packed ts → after outer ≡ fields packed ts
  defined_same outer packed ts e = by (same_name outer name)
    where
      by : (outer ≡ name) ⊎ (outer ≡ name → ⊥) → after outer ≡ fields packed ts
      by (inl p) = let none = ap bodies p ∙ before in cc
      by (inr other) = same outer other ∙ e

  module _ (inner : List ℕ) where
    mutual
      holds_still : {t : Tree} → Holds bodies inner t → Holds after inner t
      holds_still holds_as_itself = holds_as_itself
      holds_still (holds_in_array h) = holds_in_array (holds_still h)
      holds_still (holds_in_struct some) = holds_in_struct (some_hold_still some)
      holds_still (holds_in_body {outer = outer} {packed = packed} {ts = ts} e some) = holds_in_body (defined_same outer packed ts e) (some_hold_still some)

      some_hold_still : {ts : Trees} → SomeHolds bodies inner ts → SomeHolds after inner ts
      some_hold_still (first_holds h) = first_holds (holds_still h)
      some_hold_still (later_holds some) = later_holds (some_hold_still some)

    body_holds_still : (body : TreeBody) → BodyHolds bodies inner body → BodyHolds after inner body
    body_holds_still opaque_body h = h
    body_holds_still (fields packed ts) h = some_hold_still h

  contains_still : (n : List ℕ) → BodyHolds bodies n (bodies n) → BodyHolds after n (after n)
  contains_still n h = by (same_name n name)
    where
      by : (n ≡ name) ⊎ (n ≡ name → ⊥) → BodyHolds after n (after n)
      by (inl p) = absurd (subst (BodyHolds bodies n) (ap bodies p ∙ before) h)
      by (inr other) = subst (BodyHolds after n) (sym (same n other)) (body_holds_still n (bodies n) h)

-- ---- tables (the first lemmas stand in `Defined` too, over what is kept of the table: to be moved here, and used from there)

module _ (t : Types) (good : IsGood t) (id : ℕ) (lt : id < length t.structs) (undefined : slice_get (bodies t) id ≡ Some None) (body : StructBody) where
  abbrev after : Types
  after = with_body t id body

  abbrev name : List ℕ
  name = get_or (names t) id []

  abbrev before_bodies : List ℕ → TreeBody
  before_bodies = body_of (structs t)

  abbrev after_bodies : List ℕ → TreeBody
  after_bodies = body_of (structs after)

  many_names : length (names t) ≡ length t.structs
  many_names = length-map t.structs (λ s. s.0)

  other_place : (n : List ℕ) → (n ≡ name → ⊥) → index_of (names t) n ≢ id
  other_place n other e = other (sym (index_of-found (names t) n (omega (arith, e, many_names, lt))) ∙ ap (λ i. get_or (names t) i []) e)

  before : before_bodies name ≡ opaque_body
  before =
      body_of-place t name
      ∙ ap (tree_body (trees t)) (ap (λ i. get_or (bodies t) i None) (index_of-at (names t) id good.distinct (omega (arith, many_names, lt))) ∙ get_or_from_slice_get (bodies t) id None None undefined)

  same : (n : List ℕ) → (n ≡ name → ⊥) → after_bodies n ≡ before_bodies n
  same n other =
      body_of-place after n
      ∙ (λ j. tree_body (trees-defined t id body j) (get_or (bodies-defined t id body j) (index_of (names-defined t id body j) n) None))
      ∙ ap (tree_body (trees t)) (get_or-set_other (bodies t) id (index_of (names t) n) (Some body) None (other_place n other))
      ∙ sym (body_of-place t n)

  ends : (SomeContainsItself after → ⊥) → SomeContainsItself t → ⊥
  ends never some =
      let many = length-set t.structs id (name, Some body) in
      let holds = contains_still (λ _. None) before_bodies after_bodies name before same (get_or (names t) some.0 []) some.2 in
      never (some.0, omega (arith, many, some.1), subst (λ n. BodyHolds after_bodies n (after_bodies n)) (ap (λ ns. get_or ns some.0 []) (sym (names-defined t id body))) holds)

  fits : All IsWithinLimits (all_shapes after) → All IsWithinLimits (all_shapes t)
  fits all =
      let shaped : all_shapes after ≡ map (shapes.shape (structs after)) (trees t ++ map named (names t)) =
      (λ j. map (shapes.shape (structs after)) (trees-defined t id body j ++ map named (names-defined t id body j))) in
      All-through (shapes.shape (structs after)) (shapes.shape (structs t)) IsWithinLimits IsWithinLimits
      (tree_before (λ _. None) before_bodies after_bodies name before same) (trees t ++ map named (names t)) (subst (All IsWithinLimits) shaped all)

  pub within_before : IsWithin after → IsWithin t
  within_before within = record { ends = ends within.ends; fits = fits within.fits }

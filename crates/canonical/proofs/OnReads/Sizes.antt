-- Structs and types within the limits have measures within the limits.
use Rattle.std.specs.Prelude.{◌≡◌, refl, ℕ, zero, suc, ◌^◌, ◌≤◌, ◌+◌, nat_lt, Bool, true, false, ◌&&◌, bytes_eq, List, [], ◌∷◌, length, Option, Some, None, option_map}
use Rattle.std.specs.List.{list_any, list_all}
use Rattle.std.proofs.Common.{ap, sym, subst, ◌∙◌, inl, inr, arith}
use Rattle.std.proofs.lemmas.Bool.{le-ltb, and_parts, or_from}
use Rattle.std.proofs.lemmas.List.{length-map}
use Rattle.type_table.specs.declared.measure.Measure.{Measure}
use Rattle.type_table.specs.Layout.{layout, has_layout, size, align, leaves}
use Rattle.type_table.specs.Limits.{array_length, Fits, IsWithinLimits}
use Rattle.type_table.specs.Measures.{measure, capped, capped_layout, capped_parts, capped_nesting, array_measure, struct_measure, opaque_measure, Measures}
use Rattle.type_table.specs.Shape.{Label, Shape, int_leaf, ptr_leaf, void_leaf, array_of, struct_of, Shapes, expanded, all_expanded, body_shape, name_shape, shape, nesting, parts}
use Rattle.type_table.specs.Tree.{Tree, int, ptr, void, array, struct, named, Trees, no_trees, more_trees, TreeBody, opaque_body, fields, Structs, body_of}
use Rattle.type_table.proofs.Rooms.{unmapped, unjoined, name_shape-zero, name_shape-suc, shape_measure}
use Rattle.type_table.proofs.ShapeMeasures.{if_laid, kept_layout}
use Rattle.module_arena.specs.Module.{Bytes}
use Rattle.module_arena.specs.WellFormed.{is_within_limits, is_good_type, is_good_body}
use Rattle.module_arena.proofs.WithinLimits.{within_limits_decides}
use Rattle.name_rules.specs.Measured.{joined, tree_measured, all_measured, body_measured, names_of}
use Rattle.name_rules.specs.Demand.{is_deep, is_large, is_large_size}
use Rattle.name_rules.proofs.Levels.{level, level_next, first_none, tree_found, settled}
use Rattle.name_rules.proofs.Cycles.{Has}
use Rattle.name_rules.proofs.Walks.{none_first, has_name, walk, never}

abbrev HasMeasure : Option Measure → Type 0
HasMeasure o = (m : Measure) × (o ≡ Some m)

abbrev HasMeasures : Option (List Measure) → Type 0
HasMeasures o = (ms : List Measure) × (o ≡ Some ms)

abbrev HasShape : Option Shape → Type 0
HasShape o = (s : Shape) × (o ≡ Some s)

-- what has a shape has a measure, where that is so of the names
module _ (f : Bytes → Option Shape) (g : Bytes → Option Measure) (there : (n : Bytes) (x : Shape) → f n ≡ Some x → HasMeasure (g n)) where
  mutual
    tree_there : (t : Tree) (x : Shape) → expanded f t ≡ Some x → HasMeasure (tree_measured g t)
    tree_there (int w) x e = (measure (int_leaf w), refl)
    tree_there ptr x e = (measure ptr_leaf, refl)
    tree_there void x e = (measure void_leaf, refl)
    tree_there (array n t) x e =
        let inside = unmapped (array_of n) (expanded f t) x e in
        let m = tree_there t inside.0 inside.1 in
        (array_measure n m.0, ap (option_map (array_measure n)) m.1)
    tree_there (struct packed ts) x e =
        let inside = unmapped (struct_of None packed) (all_expanded f ts) x e in
        let m = trees_there ts inside.0 inside.1 in
        (struct_measure packed m.0, ap (option_map (struct_measure packed)) m.1)
    tree_there (named n) x e = there n x e

    trees_there : (ts : Trees) (xs : Shapes) → all_expanded f ts ≡ Some xs → HasMeasures (all_measured g ts)
    trees_there no_trees xs e = ([], refl)
    trees_there (more_trees t ts) xs e =
        let inside = unjoined (expanded f t) (all_expanded f ts) xs e in
        let first = tree_there t inside.0 inside.2 in
        let rest = trees_there ts inside.1 inside.3 in
        (first.0 ∷ rest.0, λ j. joined (first.1 j) (rest.1 j))

  body_there : (label : Label) (body : TreeBody) (x : Shape) → body_shape f label body ≡ Some x → HasMeasure (body_measured g body)
  body_there label opaque_body x e = (opaque_measure, refl)
  body_there label (fields packed ts) x e =
      let inside = unmapped (struct_of label packed) (all_expanded f ts) x e in
      let m = trees_there ts inside.0 inside.1 in
      (struct_measure packed m.0, ap (option_map (struct_measure packed)) m.1)

module _ (structs : Structs) where
  abbrev no_label : Bytes → Label
  no_label _ = None

  abbrev pub room_shape : ℕ → Bytes → Option Shape
  room_shape room name = name_shape no_label (body_of structs) room name

  at_level : (room : ℕ) (name : Bytes) (x : Shape) → room_shape room name ≡ Some x → HasMeasure (level structs room name)
  at_level zero name x e = let none = name_shape-zero no_label (body_of structs) name in absurd cc
  at_level (suc room) name x e =
      let here = body_there (room_shape room) (level structs room) (at_level room) None (body_of structs name) x (sym (name_shape-suc no_label (body_of structs) room name) ∙ e) in
      (here.0, level_next structs room name ∙ here.1)

  module _ (shaped : (name : Bytes) → Has name (names_of structs) → HasShape (room_shape 64 name)) where
    found_early : (name : Bytes) → HasMeasure (level structs 64 name)
    found_early name = by (level structs 64 name) refl
      where
        by : (o : Option Measure) → level structs 64 name ≡ o → HasMeasure (level structs 64 name)
        by (Some m) e = (m, e)
        by None e =
            let has = has_name structs name (first_none structs name (none_first structs 64 name e)) in
            let s = shaped name has in
            at_level 64 name s.0 s.1

    found_late : (name : Bytes) → HasMeasure (level structs (length structs) name)
    found_late name = by (level structs (length structs) name) refl
      where
        count : length (names_of structs) ≤ length structs
        count = let same = length-map structs (λ (s : Bytes × TreeBody). s.0) in omega (arith, same)

        sum : (n : ℕ) → n + 0 ≡ n
        sum n = omega arith

        by : (o : Option Measure) → level structs (length structs) name ≡ o → HasMeasure (level structs (length structs) name)
        by (Some m) e = (m, e)
        by None e =
            let n = length structs in
            let round = walk structs n 0 n (names_of structs) name e count (sum n) (λ y z. inl (has_name structs y (first_none structs y z))) in
            let none = never structs round.0 n round.1 64 n round.0 round.1 in
            let some = found_early round.0 in
            absurd cc

    pub look : Bytes → Measure
    look name = (found_late name).0

    pub looked : (name : Bytes) → level structs (length structs) name ≡ Some (look name)
    unfolding look
    looked name = (found_late name).1

    is : Measures (body_of structs) look
    is = settled structs look (length structs) looked

    small_size : (b : Bool) (s a l : ℕ) → (b ≡ true → s ≤ 2 ^ 40) → is_large_size (if_laid b s a l) ≡ false
    small_size true s a l h = le-ltb (2 ^ 40) (capped s) (let le = h refl in omega (arith, le))
    small_size false s a l h = refl

    not_deep : (s : Shape) → Fits s → is_deep (Some (measure s)) ≡ false
    not_deep s f = le-ltb 64 (capped_nesting (nesting s)) (let le = f.nests in omega (arith, le))

    not_large : (s : Shape) → Fits s → is_large (Some (measure s)) ≡ false
    not_large s f =
        or_from (nat_lt (2 ^ 20) (capped_parts (parts s))) (is_large_size (option_map capped_layout (layout s)))
        (le-ltb (2 ^ 20) (capped_parts (parts s)) (let le = f.parts_fit in omega (arith, le)))
        (ap is_large_size (kept_layout s) ∙ small_size (has_layout s) (size s) (align s) (leaves s) f.size_fits)

    -- a type within the limits has a measure within the limits
    pub type_small : (t : Tree) → is_within_limits (shape structs t) ≡ true → (is_deep (tree_measured (level structs (length structs)) t) ≡ false) × (is_large (tree_measured (level structs (length structs)) t) ≡ false)
    type_small t w = by (shape structs t) refl ((within_limits_decides (shape structs t)).0 w)
      where
        by : (o : Option Shape) → shape structs t ≡ o → IsWithinLimits o → (is_deep (tree_measured (level structs (length structs)) t) ≡ false) × (is_large (tree_measured (level structs (length structs)) t) ≡ false)
        by None e f = absurd f
        by (Some s) e f =
            let same : tree_measured (level structs (length structs)) t ≡ Some (measure s) =
            tree_found (level structs (length structs)) look looked t ∙ ap Some (sym (shape_measure no_label (body_of structs) look is 64 t s e)) in
            (ap is_deep same ∙ not_deep s f, ap is_large same ∙ not_large s f)

-- the length of an array within the limits
pub short_array : (structs : Structs) (n : ℕ) (t : Tree) → is_within_limits (shape structs (array n t)) ≡ true → n ≤ 2 ^ 40
short_array structs n t w = by (shape structs (array n t)) refl ((within_limits_decides (shape structs (array n t))).0 w)
  where
    by : (o : Option Shape) → shape structs (array n t) ≡ o → IsWithinLimits o → n ≤ 2 ^ 40
    by None e f = absurd f
    by (Some s) e f =
        let inside = unmapped (array_of n) (shape structs t) s e in
        let long = ap array_length inside.2 in
        let le = f.length_fits in
        omega (arith, long, le)

-- a type within the limits has a shape, that nests no deeper than 64
pub shape_fits : (structs : Structs) (t : Tree) → is_within_limits (shape structs t) ≡ true → (s : Shape) × (shape structs t ≡ Some s) × (nesting s ≤ 64)
shape_fits structs t w = by (shape structs t) refl ((within_limits_decides (shape structs t)).0 w)
  where
    by : (o : Option Shape) → shape structs t ≡ o → IsWithinLimits o → (s : Shape) × (shape structs t ≡ Some s) × (nesting s ≤ 64)
    by None e f = absurd f
    by (Some s) e f = (s, e, f.nests)

-- each struct has a shape where all are good
pub each_shaped : (all structs : Structs) → list_all (λ s. is_good_body all s.1 && is_good_type all (named s.0)) structs ≡ true → (name : Bytes) → Has name (names_of structs) → HasShape (room_shape all 64 name)
each_shaped all [] e name h = absurd h
each_shaped all (s ∷ more) e name (inl q) =
    let here = (and_parts (is_good_body all s.1 && is_good_type all (named s.0)) (list_all (λ s. is_good_body all s.1 && is_good_type all (named s.0)) more) e).0 in
    let type = (and_parts (is_good_body all s.1) (is_good_type all (named s.0)) here).1 in
    let within = (and_parts (list_any (λ (k : Bytes × TreeBody). bytes_eq k.0 s.0) all) (is_within_limits (shape all (named s.0))) type).1 in
    let fits = shape_fits all (named s.0) within in
    subst (λ n. HasShape (room_shape all 64 n)) (sym q) (fits.0, fits.1)
each_shaped all (s ∷ more) e name (inr h) =
    each_shaped all more (and_parts (is_good_body all s.1 && is_good_type all (named s.0)) (list_all (λ s. is_good_body all s.1 && is_good_type all (named s.0)) more) e).1 name h

-- Where fewer structs are defined, shapes are smaller: what fits in the end fits before.
use Rattle.std.proofs.Common.{◌≡◌, ℕ, zero, suc, ◌≤◌, ◌⊎◌, Bool, true, false, ◌&&◌, List, [], ◌∷◌, Option, Some, None, refl, ap, arith, inl, inr}
use Rattle.std.specs.Option.{option_map}
use Rattle.type_table.specs.Tree.{Tree, int, ptr, void, array, struct, named, Trees, no_trees, more_trees, TreeBody, opaque_body, fields, Structs, body_of}
use Rattle.type_table.specs.Shape.{Label, Shape, int_leaf, ptr_leaf, void_leaf, opaque_leaf, array_of, struct_of, Shapes, no_shapes, more_shapes, with_first, expanded, all_expanded, body_shape, name_shape, shape, nesting, deepest, parts, all_parts}
use Rattle.std.specs.Prelude.{◌^◌, not, ◌||◌, nat_le, map, slice_index_or}
use Rattle.std.proofs.lemmas.Bool.{leb-true, le-leb, false≢true}
use Rattle.type_table.specs.Layout.{has_layout, have_layouts, size}
use Rattle.type_table.specs.Limits.{array_length}
use Rattle.module_arena.specs.WellFormed.{is_within_limits}

mutual
  -- the first shape is the second with some structs cut to opaque leaves
  pub data IsCut : Shape → Shape → Type 0 where
    same : {s : Shape} → IsCut s s
    cut : {l : Label} {packed : Bool} {ss : Shapes} → IsCut (opaque_leaf l) (struct_of l packed ss)
    in_array : {n : ℕ} {s t : Shape} → IsCut s t → IsCut (array_of n s) (array_of n t)
    in_struct : {l : Label} {packed : Bool} {ss ts : Shapes} → AreCut ss ts → IsCut (struct_of l packed ss) (struct_of l packed ts)

  pub data AreCut : Shapes → Shapes → Type 0 where
    no_shapes_cut : AreCut no_shapes no_shapes
    more_cut : {s t : Shape} {ss ts : Shapes} → IsCut s t → AreCut ss ts → AreCut (more_shapes s ss) (more_shapes t ts)

-- where the second is there, the first is there and cut from it
abbrev pub CutFrom : Option Shape → Option Shape → Type 0
CutFrom less None = Unit {0}
CutFrom less (Some t) = (s : Shape) × (less ≡ Some s) × IsCut s t

abbrev AllCutFrom : Option Shapes → Option Shapes → Type 0
AllCutFrom less None = Unit {0}
AllCutFrom less (Some ts) = (ss : Shapes) × (less ≡ Some ss) × AreCut ss ts

array_cut : (n : ℕ) (less more : Option Shape) → CutFrom less more → CutFrom (option_map (array_of n) less) (option_map (array_of n) more)
array_cut n less None h = tt
array_cut n less (Some t) h = (array_of n h.0, rw h.1 refl, in_array h.2)

struct_cut : (l : Label) (packed : Bool) (less more : Option Shapes) → AllCutFrom less more → CutFrom (option_map (struct_of l packed) less) (option_map (struct_of l packed) more)
struct_cut l packed less None h = tt
struct_cut l packed less (Some ts) h = (struct_of l packed h.0, rw h.1 refl, in_struct h.2)

first_cut : (a b : Option Shape) (us vs : Option Shapes) → CutFrom a b → AllCutFrom us vs → AllCutFrom (with_first a us) (with_first b vs)
first_cut a None us vs h hs = tt
first_cut a (Some t) us None h hs = tt
first_cut a (Some t) us (Some ts) h hs = (more_shapes h.0 hs.0, rw (h.1, hs.1) refl, more_cut h.2 hs.2)

module _ (look look' : List ℕ → Option Shape) (looks : (name : List ℕ) → CutFrom (look name) (look' name)) where
  mutual
    pub expanded_cut : (t : Tree) → CutFrom (expanded look t) (expanded look' t)
    expanded_cut (int w) = (int_leaf w, refl, same)
    expanded_cut ptr = (ptr_leaf, refl, same)
    expanded_cut void = (void_leaf, refl, same)
    expanded_cut (array n t) = array_cut n (expanded look t) (expanded look' t) (expanded_cut t)
    expanded_cut (struct packed ts) = struct_cut None packed (all_expanded look ts) (all_expanded look' ts) (all_expanded_cut ts)
    expanded_cut (named name) = looks name

    all_expanded_cut : (ts : Trees) → AllCutFrom (all_expanded look ts) (all_expanded look' ts)
    all_expanded_cut no_trees = (no_shapes, refl, no_shapes_cut)
    all_expanded_cut (more_trees t ts) = first_cut (expanded look t) (expanded look' t) (all_expanded look ts) (all_expanded look' ts) (expanded_cut t) (all_expanded_cut ts)

  opaque_cut : (l : Label) (more : Option Shapes) (packed : Bool) → CutFrom (Some (opaque_leaf l)) (option_map (struct_of l packed) more)
  opaque_cut l None packed = tt
  opaque_cut l (Some ts) packed = (opaque_leaf l, refl, cut)

  -- a body that is less defined is opaque
  body_cut : (l : Label) (less more : TreeBody) → (less ≡ more) ⊎ (less ≡ opaque_body) → CutFrom (body_shape look l less) (body_shape look' l more)
  body_cut l less opaque_body (inl e) = rw e (opaque_leaf l, refl, same)
  body_cut l less opaque_body (inr e) = rw e (opaque_leaf l, refl, same)
  body_cut l less (fields packed ts) (inl e) = rw e (struct_cut l packed (all_expanded look ts) (all_expanded look' ts) (all_expanded_cut ts))
  body_cut l less (fields packed ts) (inr e) = rw e (opaque_cut l (all_expanded look' ts) packed)

-- the same for names, however deep they stand in names
pub name_cut : (label : List ℕ → Label) (less more : List ℕ → TreeBody) → ((name : List ℕ) → (less name ≡ more name) ⊎ (less name ≡ opaque_body))
    → (room : ℕ) (name : List ℕ) → CutFrom (name_shape label less room name) (name_shape label more room name)
unfolding name_shape
name_cut label less more fewer zero name = tt
name_cut label less more fewer (suc room) name =
    body_cut (name_shape label less room) (name_shape label more room) (name_cut label less more fewer room) (label name) (less name) (more name) (fewer name)

mutual
  nests_less : (s t : Shape) → IsCut s t → nesting s ≤ nesting t
  nests_less s t same = omega arith
  nests_less s t cut = omega arith
  nests_less s t (in_array {s = a} {t = b} h) = let less = nests_less a b h in omega arith
  nests_less s t (in_struct {ss = a} {ts = b} h) = let less = deepest_less a b h in omega arith

  deepest_less : (ss ts : Shapes) → AreCut ss ts → deepest ss ≤ deepest ts
  deepest_less ss ts no_shapes_cut = omega arith
  deepest_less ss ts (more_cut {s = a} {t = b} {ss = us} {ts = vs} h hs) = let one = nests_less a b h in let others = deepest_less us vs hs in omega arith

mutual
  parts_less : (s t : Shape) → IsCut s t → parts s ≤ parts t
  parts_less s t same = omega arith
  parts_less s t cut = omega arith
  parts_less s t (in_array {s = a} {t = b} h) = let less = parts_less a b h in omega arith
  parts_less s t (in_struct {ss = a} {ts = b} h) = let less = all_parts_less a b h in omega arith

  all_parts_less : (ss ts : Shapes) → AreCut ss ts → all_parts ss ≤ all_parts ts
  all_parts_less ss ts no_shapes_cut = omega arith
  all_parts_less ss ts (more_cut {s = a} {t = b} {ss = us} {ts = vs} h hs) = let one = parts_less a b h in let others = all_parts_less us vs hs in omega arith

length_less : (s t : Shape) → IsCut s t → array_length s ≤ array_length t
length_less s t same = omega arith
length_less s t cut = omega arith
length_less s t (in_array h) = omega arith
length_less s t (in_struct h) = omega arith

left_true : (a b : Bool) → (a && b) ≡ true → a ≡ true
left_true true b e = refl
left_true false b e = e

right_true : (a b : Bool) → (a && b) ≡ true → b ≡ true
right_true true b e = e
right_true false b e = absurd (false≢true e)

mutual
  -- what lies in memory has nothing cut
  laid_is_same : (s t : Shape) → IsCut s t → has_layout s ≡ true → s ≡ t
  laid_is_same s t same laid = refl
  laid_is_same s t cut laid = absurd (false≢true laid)
  laid_is_same s t (in_array {n = n} {s = a} {t = b} h) laid = ap (array_of n) (laid_is_same a b h laid)
  laid_is_same s t (in_struct {l = l} {packed = packed} {ss = a} {ts = b} h) laid = ap (struct_of l packed) (laid_are_same a b h laid)

  laid_are_same : (ss ts : Shapes) → AreCut ss ts → have_layouts ss ≡ true → ss ≡ ts
  laid_are_same ss ts no_shapes_cut laid = refl
  laid_are_same ss ts (more_cut {s = a} {t = b} {ss = us} {ts = vs} h hs) laid =
      rw (laid_is_same a b h (left_true (has_layout a) (have_layouts us) laid), laid_are_same us vs hs (right_true (has_layout a) (have_layouts us) laid)) refl

below_too : (a b limit : ℕ) → a ≤ b → nat_le b limit ≡ true → nat_le a limit ≡ true
below_too a b limit less fits = let there : b ≤ limit = leb-true b limit fits in le-leb a limit (omega arith)

size_fits : (s t : Shape) → IsCut s t → (laid : Bool) → has_layout s ≡ laid → (not (has_layout t) || nat_le (size t) (2 ^ 40)) ≡ true → (not (has_layout s) || nat_le (size s) (2 ^ 40)) ≡ true
size_fits s t h false e fit = rw e refl
size_fits s t h true e fit = rw (laid_is_same s t h e) fit

-- what is within the limits in the end is so before
pub fits_before : (s t : Shape) → IsCut s t → is_within_limits (Some t) ≡ true → is_within_limits (Some s) ≡ true
fits_before s t h fit =
    let deep = left_true (nat_le (nesting t) 64) _ fit in
    let others = right_true (nat_le (nesting t) 64) _ fit in
    let many = left_true (nat_le (parts t) (2 ^ 20)) _ others in
    let last = right_true (nat_le (parts t) (2 ^ 20)) _ others in
    let long = left_true (nat_le (array_length t) (2 ^ 40)) _ last in
    let laid = right_true (nat_le (array_length t) (2 ^ 40)) _ last in
    rw (
      below_too (nesting s) (nesting t) 64 (nests_less s t h) deep,
      below_too (parts s) (parts t) (2 ^ 20) (parts_less s t h) many,
      below_too (array_length s) (array_length t) (2 ^ 40) (length_less s t h) long,
    ) (size_fits s t h (has_layout s) refl laid)

by_cut : (less more : Option Shape) → CutFrom less more → is_within_limits more ≡ true → is_within_limits less ≡ true
by_cut less None from h = absurd (false≢true h)
by_cut less (Some t) from h = rw from.1 (fits_before from.0 t from.2 h)

-- a type that is within the limits in the end is so where fewer structs are defined
pub fits_less : (less more : Structs) → ((name : List ℕ) → (body_of less name ≡ body_of more name) ⊎ (body_of less name ≡ opaque_body))
    → (t : Tree) → is_within_limits (shape more t) ≡ true → is_within_limits (shape less t) ≡ true
fits_less less more fewer t h =
    by_cut (shape less t) (shape more t)
    (expanded_cut (name_shape (λ name. None) (body_of less) 64) (name_shape (λ name. None) (body_of more) 64) (name_cut (λ name. None) (body_of less) (body_of more) fewer 64) t) h

opaque_at : (names : List (List ℕ)) (id : ℕ) → slice_index_or (map (λ (s : List ℕ × TreeBody). s.1) (map (λ (n : List ℕ). (n, opaque_body)) names)) id opaque_body ≡ opaque_body
opaque_at [] zero = refl
opaque_at [] (suc id) = refl
opaque_at (n ∷ names) zero = refl
opaque_at (n ∷ names) (suc id) = opaque_at names id

-- and so where none is
pub fits_opaque : (names : List (List ℕ)) (more : Structs) (t : Tree) → is_within_limits (shape more t) ≡ true → is_within_limits (shape (map (λ (n : List ℕ). (n, opaque_body)) names) t) ≡ true
fits_opaque names more t h = fits_less (map (λ (n : List ℕ). (n, opaque_body)) names) more (λ name. inr (opaque_at names _)) t h

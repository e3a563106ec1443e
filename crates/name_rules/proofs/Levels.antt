-- The measures of structs, level by level: once found they stay, and where each struct has one they are those of the bodies.
use Rattle.std.specs.Prelude.{◌≡◌, refl, ℕ, zero, suc, List, [], ◌∷◌, map, slice_index_or, Option, Some, None, option_map}
use Rattle.std.proofs.Common.{ap, sym, ◌∙◌}
use Rattle.std.proofs.lemmas.Option.{same_Some}
use Rattle.type_table.specs.declared.measure.Measure.{Measure}
use Rattle.type_table.specs.Measures.{opaque_measure, array_measure, struct_measure, tree_measure, tree_measures, tree_body_measure, Measures}
use Rattle.type_table.specs.Tree.{Tree, int, ptr, void, array, struct, named, Trees, no_trees, more_trees, TreeBody, opaque_body, fields, Structs, index_of, body_of}
use Rattle.type_table.proofs.UnderIds.{get_or-map}
use Rattle.type_table.proofs.Rooms.{unmapped}
use Rattle.module_arena.specs.Module.{Bytes}
use Rattle.name_rules.specs.Measured.{joined, tree_measured, all_measured, body_measured, names_of, look_in, measures_within}

unjoined : (a : Option Measure) (b : Option (List Measure)) (ys : List Measure) → joined a b ≡ Some ys → (m : Measure) × (ms : List Measure) × (a ≡ Some m) × (b ≡ Some ms) × (m ∷ ms ≡ ys)
unjoined None b ys e = absurd cc
unjoined (Some m) None ys e = absurd cc
unjoined (Some m) (Some ms) ys e = (m, ms, refl, refl, cc)

-- what is found by one look-up is found by one that has more
module _ (f g : Bytes → Option Measure) (more : (n : Bytes) (m : Measure) → f n ≡ Some m → g n ≡ Some m) where
  mutual
    tree_more : (t : Tree) (m : Measure) → tree_measured f t ≡ Some m → tree_measured g t ≡ Some m
    tree_more (int w) m e = e
    tree_more ptr m e = e
    tree_more void m e = e
    tree_more (array n t) m e =
        let inside = unmapped (array_measure n) (tree_measured f t) m e in
        ap (option_map (array_measure n)) (tree_more t inside.0 inside.1) ∙ ap Some inside.2
    tree_more (struct packed ts) m e =
        let inside = unmapped (struct_measure packed) (all_measured f ts) m e in
        ap (option_map (struct_measure packed)) (trees_more ts inside.0 inside.1) ∙ ap Some inside.2
    tree_more (named n) m e = more n m e

    trees_more : (ts : Trees) (ms : List Measure) → all_measured f ts ≡ Some ms → all_measured g ts ≡ Some ms
    trees_more no_trees ms e = e
    trees_more (more_trees t ts) ms e =
        let inside = unjoined (tree_measured f t) (all_measured f ts) ms e in
        (λ j. joined (tree_more t inside.0 inside.2 j) (trees_more ts inside.1 inside.3 j)) ∙ ap Some inside.4

  body_more : (body : TreeBody) (m : Measure) → body_measured f body ≡ Some m → body_measured g body ≡ Some m
  body_more opaque_body m e = e
  body_more (fields packed ts) m e =
      let inside = unmapped (struct_measure packed) (all_measured f ts) m e in
      ap (option_map (struct_measure packed)) (trees_more ts inside.0 inside.1) ∙ ap Some inside.2

-- where each name has a measure, so has each type, and that is the one by these
module _ (f : Bytes → Option Measure) (look : Bytes → Measure) (all : (n : Bytes) → f n ≡ Some (look n)) where
  mutual
    pub tree_found : (t : Tree) → tree_measured f t ≡ Some (tree_measure look t)
    tree_found (int w) = refl
    tree_found ptr = refl
    tree_found void = refl
    tree_found (array n t) = ap (option_map (array_measure n)) (tree_found t)
    tree_found (struct packed ts) = ap (option_map (struct_measure packed)) (trees_found ts)
    tree_found (named n) = all n

    trees_found : (ts : Trees) → all_measured f ts ≡ Some (tree_measures look ts)
    trees_found no_trees = refl
    trees_found (more_trees t ts) = λ j. joined (tree_found t j) (trees_found ts j)

  pub body_found : (body : TreeBody) → body_measured f body ≡ Some (tree_body_measure look body)
  body_found opaque_body = refl
  body_found (fields packed ts) = ap (option_map (struct_measure packed)) (trees_found ts)

-- at first a name has a measure only where no struct has the name
first_found : (xs : Structs) (i : ℕ) (m : Measure) → slice_index_or (map (λ s. None) xs) i (Some opaque_measure) ≡ Some m
    → (slice_index_or (map (λ s. s.1) xs) i opaque_body ≡ opaque_body) × (Some opaque_measure ≡ Some m)
first_found [] i m e = (refl, e)
first_found (x ∷ xs) zero m e = absurd cc
first_found (x ∷ xs) (suc i) m e = first_found xs i m e

module _ (structs : Structs) where
  abbrev pub level : ℕ → Bytes → Option Measure
  level n = look_in structs (measures_within structs n)

  next_list : (n : ℕ) → measures_within structs (suc n) ≡ map (λ s. body_measured (level n) s.1) structs
  unfolding measures_within
  next_list n = refl

  first_list : measures_within structs zero ≡ map (λ s. None) structs
  unfolding measures_within
  first_list = refl

  -- at first a name that has a measure has no fields
  pub first_level : (name : Bytes) (m : Measure) → level zero name ≡ Some m → body_of structs name ≡ opaque_body
  first_level name m e = (first_found structs (index_of (names_of structs) name) m (ap (λ list. slice_index_or list (index_of (names_of structs) name) (Some opaque_measure)) (sym first_list) ∙ e)).0

  pub first_none : (name : Bytes) → level zero name ≡ None → slice_index_or (map (λ s. None) structs) (index_of (names_of structs) name) (Some opaque_measure) ≡ None
  first_none name e = ap (λ list. slice_index_or list (index_of (names_of structs) name) (Some opaque_measure)) (sym first_list) ∙ e

  -- one level more
  pub level_next : (n : ℕ) (name : Bytes) → level (suc n) name ≡ body_measured (level n) (body_of structs name)
  level_next n name =
      let i = index_of (names_of structs) name in
      ap (λ list. slice_index_or list i (Some opaque_measure)) (next_list n)
      ∙ get_or-map (λ (s : Bytes × TreeBody). body_measured (level n) s.1) structs i ([], opaque_body)
      ∙ ap (body_measured (level n)) (sym (get_or-map (λ (s : Bytes × TreeBody). s.1) structs i ([], opaque_body)))

  -- a measure that was found stays
  pub stays : (n : ℕ) (name : Bytes) (m : Measure) → level n name ≡ Some m → level (suc n) name ≡ Some m
  stays zero name m e =
      let first = first_found structs (index_of (names_of structs) name) m (ap (λ list. slice_index_or list (index_of (names_of structs) name) (Some opaque_measure)) (sym first_list) ∙ e) in
      level_next zero name ∙ ap (body_measured (level zero)) first.0 ∙ first.1
  stays (suc n) name m e =
      level_next (suc n) name
      ∙ body_more (level n) (level (suc n)) (λ k x q. stays n k x q) (body_of structs name) m (sym (level_next n name) ∙ e)

  pub stays_on : (n : ℕ) (name : Bytes) (m : Measure) → level zero name ≡ Some m → level n name ≡ Some m
  stays_on zero name m e = e
  stays_on (suc n) name m e = stays n name m (stays_on n name m e)

  -- where each name has a measure at some level, they are those of the bodies
  pub settled : (look : Bytes → Measure) (n : ℕ) → ((name : Bytes) → level n name ≡ Some (look name)) → Measures (body_of structs) look
  settled look n all name =
      same_Some (look name) (tree_body_measure look (body_of structs name))
      (sym (stays n name (look name) (all name)) ∙ level_next n name ∙ body_found (level n) look all (body_of structs name))

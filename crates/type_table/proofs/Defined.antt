-- A table in which a struct that was not defined is given its body: what is kept of it, and when it is refused.
use Rattle.std.proofs.Common.{◌≡◌, ◌≢◌, ℕ, zero, suc, ◌+◌, ◌≤◌, ◌<◌, true, false, List, [], ◌∷◌, ◌++◌, Option, Some, None, ◌⊎◌, inl, inr, map, length, get_or, set, slice_get, ap, refl, sym, ◌∙◌, subst, arith, All, AllPairs}
use Rattle.std.specs.List.{fold}
use Rattle.std.proofs.lemmas.List.{length-map, length-set, map-set, set-get_or, get_or-set_same, get_or-set_other, get_or_default, get_or_past}
use Rattle.std.proofs.lemmas.List.Elements.{All-set, All-head, All-tail}
use Rattle.std.proofs.lemmas.Option.{get_or_from_slice_get}
use Rattle.std.proofs.lemmas.Bool.{cases_lt}
use Rattle.indexmap.specs.IndexMap.{set_value_at}
use Rattle.type_table.specs.declared.ir_type.IrType.{IrType}
use Rattle.type_table.specs.declared.ir_type.StructBody.{StructBody}
use Rattle.type_table.specs.declared.ir_type.StructBody.TheVariants.{Opaque, Plain, Packed}
use Rattle.type_table.specs.declared.measure.Measure.{Measure}
use Rattle.type_table.specs.declared.fault.TypeFault.{TypeFault}
use Rattle.type_table.specs.declared.fault.TypeFault.TheVariants.{Duplicate, SelfContaining, TooDeep, TooLarge, Memory}
use Rattle.type_table.specs.Contains.{BodyHolds}
use Rattle.type_table.specs.Kept.{IsSmall, IsMeasured, IsKept, HasListFault}
use Rattle.type_table.specs.Limits.{HasFault, SomeContainsItself}
use Rattle.type_table.specs.Measures.{Measures, measure_of, opaque_measure, body_measure, measures_at, type_measures, passes, tree_measures, tree_body_measure, deepest_nesting}
use Rattle.type_table.specs.Shape.{all_expanded, name_shape}
use Rattle.type_table.specs.Tree.{named, TreeBody, opaque_body, fields, body_of, index_of}
use Rattle.type_table.specs.Types.{Types, with_body, names, bodies, trees, trees_at, grow, tree_body, structs, KnowsBody, AllKnown, IsKnownBody, IsGood}
use Rattle.type_table.proofs.Added.{length-trees}
use Rattle.type_table.proofs.Judged.{agree, types_measured, some_deep, none_deep, some_large, none_contains_itself, All-left, All-right}
use Rattle.type_table.proofs.PassLists.{passes-zero, passes-suc, length-passes, get_or-struct_measures, deepest_most}
use Rattle.type_table.proofs.Redefined.{measures_after, contains_itself, name_near, HaveShapes}
use Rattle.type_table.proofs.Rooms.{has_shape, HasShape, HasShapes, trees_have_shapes, AllBelow, struct_at_most}
use Rattle.type_table.proofs.Settled.{Passes, settled, kept_measure, pass_measure}
use Rattle.type_table.proofs.UnderIds.{tree_at, index_of-at, index_of-found, body_of-place, measure_of-at, trees-measures, tree_body-measure}

-- the names stay
pub names-defined : (t : Types) (id : ℕ) (body : StructBody) → names (with_body t id body) ≡ names t
names-defined t id body =
    map-set (λ (s : List ℕ × Option StructBody). s.0) t.structs id (get_or (names t) id [], Some body) ∙ set-get_or (names t) id []

pub bodies-defined : (t : Types) (id : ℕ) (body : StructBody) → bodies (with_body t id body) ≡ set (bodies t) id (Some body)
bodies-defined t id body = map-set (λ (s : List ℕ × Option StructBody). s.1) t.structs id (get_or (names t) id [], Some body)

-- and so do the trees
pub trees-defined : (t : Types) (id : ℕ) (body : StructBody) → trees (with_body t id body) ≡ trees t
trees-defined t id body = ap (λ ns. fold (grow ns) [] t.types) (names-defined t id body)

module _ (t : Types) (ks kt : List Measure) (is : IsKept t ks kt) (id : ℕ) (lt : id < length t.structs) (undefined : slice_get (bodies t) id ≡ Some None)
    (body : StructBody) (known : IsKnownBody t body) where
  abbrev after : Types
  after = with_body t id body

  abbrev name : List ℕ
  name = get_or (names t) id []

  abbrev look : List ℕ → Measure
  look = measure_of (names t) ks

  abbrev before_bodies : List ℕ → TreeBody
  before_bodies = body_of (structs t)

  abbrev after_bodies : List ℕ → TreeBody
  after_bodies = body_of (structs after)

  -- what the struct will measure
  abbrev pub defined : Measure
  defined = body_measure kt opaque_measure (Some body)

  abbrev pub start : List Measure
  start = set ks id defined

  many_names : length (names t) ≡ length t.structs
  many_names = length-map t.structs (λ s. s.0)

  many_bodies : length (bodies t) ≡ length t.structs
  many_bodies = length-map t.structs (λ s. s.1)

  -- the place of a name that is another than the struct's
  other_place : (n : List ℕ) → (n ≡ name → ⊥) → index_of (names t) n ≢ id
  other_place n other e = other (sym (index_of-found (names t) n (omega (arith, e, many_names))) ∙ ap (λ i. get_or (names t) i []) e)

  name_place : index_of (names t) name ≡ id
  name_place = index_of-at (names t) id is.measured.good.distinct (omega (arith, many_names))

  before : before_bodies name ≡ opaque_body
  before = body_of-place t name ∙ ap (tree_body (trees t)) (ap (λ i. get_or (bodies t) i None) name_place ∙ get_or_from_slice_get (bodies t) id None None undefined)

  after_place : (n : List ℕ) → after_bodies n ≡ tree_body (trees t) (get_or (set (bodies t) id (Some body)) (index_of (names t) n) None)
  after_place n =
      body_of-place after n
      ∙ (λ j. tree_body (trees-defined t id body j) (get_or (bodies-defined t id body j) (index_of (names-defined t id body j) n) None))

  same : (n : List ℕ) → (n ≡ name → ⊥) → after_bodies n ≡ before_bodies n
  same n other =
      after_place n
      ∙ ap (tree_body (trees t)) (get_or-set_other (bodies t) id (index_of (names t) n) (Some body) None (other_place n other))
      ∙ sym (body_of-place t n)

  after_name : after_bodies name ≡ tree_body (trees t) (Some body)
  after_name =
      after_place name
      ∙ ap (tree_body (trees t)) (ap (λ i. get_or (set (bodies t) id (Some body)) i None) name_place ∙ get_or-set_same (bodies t) id (Some body) None (omega (arith, many_bodies)))

  known_trees : KnowsBody (length (trees t)) (Some body)
  known_trees = subst (λ n. KnowsBody n (Some body)) (sym (length-trees t)) known

  -- the struct will measure what its body does by the measures so far
  defined_is : defined ≡ tree_body_measure look (after_bodies name)
  defined_is =
      sym (ap (λ ms. body_measure ms opaque_measure (Some body)) (types_measured t ks kt is.measured))
      ∙ sym (tree_body-measure look (names t) ks (agree t ks kt is.measured) (trees t) opaque_measure (Some body) known_trees)
      ∙ opaque_or (tree_body (trees t) (Some body))
      ∙ ap (tree_body_measure look) (sym after_name)
    where
      opaque_or : (b : TreeBody) → pass_measure look opaque_measure b ≡ tree_body_measure look b
      opaque_or opaque_body = refl
      opaque_or (fields packed ts) = refl

  small_at : (i : ℕ) → (get_or kt i opaque_measure).nesting ≤ 64
  small_at i = by (cases_lt i (length kt))
    where
      by : (i < length kt) ⊎ (length kt ≤ i) → (get_or kt i opaque_measure).nesting ≤ 64
      by (inl l) = (is.small_types i opaque_measure l).nests
      by (inr g) = let e = ap (λ (m : Measure). m.nesting) (get_or_past kt i opaque_measure g) in omega (arith, e)

  fields_below : (ids : List ℕ) → AllBelow (64 + 1) (measures_at kt ids)
  fields_below [] = tt
  fields_below (i ∷ ids) = let s = small_at i in (omega (arith, s), fields_below ids)

  defined_nesting : defined.nesting ≤ 65
  defined_nesting = by body
    where
      by : (b : StructBody) → (body_measure kt opaque_measure (Some b)).nesting ≤ 65
      by Opaque = omega arith
      by (Plain parts) = struct_at_most false (measures_at kt parts) 64 (fields_below parts)
      by (Packed parts) = struct_at_most true (measures_at kt parts) 64 (fields_below parts)

  trees_below : (ids : List ℕ) → All (λ part. part < length (trees t)) ids → AllBelow 65 (tree_measures look (trees_at (trees t) ids))
  trees_below [] all = tt
  trees_below (i ∷ ids) all =
      let P : ℕ → Type 0 = λ part. part < length (trees t) in
      let here = tree_at look (names t) ks (agree t ks kt is.measured) (trees t) i (All-head P i ids all) ∙ ap (λ ms. get_or ms i opaque_measure) (types_measured t ks kt is.measured) in
      let n = ap (λ (m : Measure). m.nesting) here in
      let s = small_at i in
      (omega (arith, n, s), trees_below ids (All-tail P i ids all))

  small_look : (n : List ℕ) → (look n).nesting ≤ 64
  small_look n = by (cases_lt (index_of (names t) n) (length ks))
    where
      by : (index_of (names t) n < length ks) ⊎ (length ks ≤ index_of (names t) n) → (look n).nesting ≤ 64
      by (inl l) = (is.small_structs (index_of (names t) n) opaque_measure l).nests
      by (inr g) = let e = ap (λ (m : Measure). m.nesting) (get_or_past ks (index_of (names t) n) opaque_measure g) in omega (arith, e)

  ids_shaped : (ids : List ℕ) → All (λ part. part < length (trees t)) ids → HasShapes (all_expanded (name_shape (λ _. None) before_bodies 64) (trees_at (trees t) ids))
  ids_shaped ids all =
      trees_have_shapes (name_shape (λ _. None) before_bodies 64) look 64 (omega arith)
      (λ n le. has_shape (λ _. None) before_bodies look is.measured.structs_kept 64 (named n) (omega arith) le) 65 (trees_at (trees t) ids) (trees_below ids all) (omega arith)

  abbrev BodyShaped : TreeBody → Type 0
  BodyShaped opaque_body = Unit {0}
  BodyShaped (fields packed ts) = HasShapes (all_expanded (name_shape (λ _. None) before_bodies 64) ts)

  body_shaped : BodyShaped (after_bodies name)
  body_shaped = subst BodyShaped (sym after_name) (by body known_trees)
    where
      by : (b : StructBody) → KnowsBody (length (trees t)) (Some b) → BodyShaped (tree_body (trees t) (Some b))
      by Opaque k = tt
      by (Plain parts) k = ids_shaped parts k
      by (Packed parts) k = ids_shaped parts k

  -- the struct that is not defined nests 1 deep
  pub some_nesting : 1 ≤ deepest_nesting ks
  some_nesting =
      let opaque = sym (agree t ks kt is.measured id (omega (arith, many_names))) ∙ is.measured.structs_kept name ∙ ap (tree_body_measure look) before in
      let at : (get_or ks id opaque_measure).nesting ≡ 1 = ap (λ (m : Measure). m.nesting) opaque in
      let most : (get_or ks id opaque_measure).nesting ≤ deepest_nesting ks = deepest_most ks id opaque_measure (omega (arith, is.measured.as_many)) in
      omega (arith, at, most)

  module _ (room : ℕ) (low : 1 ≤ room) (high : room ≤ 64) (nests : All (λ m. m.nesting ≤ room) ks) where
    abbrev looks : ℕ → List ℕ → Measure
    looks k = measure_of (names t) (passes t.types (bodies t) start k)

    abbrev pub made : List Measure
    made = passes t.types (bodies t) start room

    abbrev new : List ℕ → Measure
    new = looks room

    many_start : length start ≡ length (bodies t)
    many_start = length-set ks id defined ∙ is.measured.as_many ∙ sym many_bodies

    many_made : (k : ℕ) → length (passes t.types (bodies t) start k) ≡ length (bodies t)
    many_made k = length-passes t.types (bodies t) start k many_start

    abbrev had : ℕ → List Measure
    had k = passes t.types (bodies t) start k

    had_at : (k i : ℕ) → i < length (names t) → looks k (get_or (names t) i []) ≡ get_or (had k) i opaque_measure
    had_at k i l = measure_of-at (names t) (had k) i is.measured.good.distinct l

    known_at : (i : ℕ) → KnowsBody (length (trees t)) (get_or (bodies t) i None)
    known_at i = by (cases_lt i (length (bodies t)))
      where
        by : (i < length (bodies t)) ⊎ (length (bodies t) ≤ i) → KnowsBody (length (trees t)) (get_or (bodies t) i None)
        by (inl l) = subst (λ c. KnowsBody c (get_or (bodies t) i None)) (sym (length-trees t)) (is.measured.good.known_bodies i None l)
        by (inr g) = subst (KnowsBody (length (trees t))) (sym (get_or_past (bodies t) i None g)) tt

    -- each pass measures what the names stand for by the pass before
    passes_made : Passes before_bodies looks
    passes_made k n =
        ap (λ ms. get_or ms (index_of (names t) n) opaque_measure) (passes-suc t.types (bodies t) start k)
        ∙ get_or-struct_measures (type_measures (had k) t.types) (had k) (bodies t) (index_of (names t) n) (many_made k)
        ∙ ap (λ ms. body_measure ms (looks k n) (get_or (bodies t) (index_of (names t) n) None))
        (sym (trees-measures (looks k) (names t) (had k) (had_at k) t.types (subst (λ c. AllKnown 0 c t.types) (sym many_names) is.measured.good.known)))
        ∙ sym (tree_body-measure (looks k) (names t) (had k) (had_at k) (trees t) (looks k n) (get_or (bodies t) (index_of (names t) n) None) (known_at (index_of (names t) n)))
        ∙ ap (pass_measure (looks k) (looks k n)) (sym (body_of-place t n))

    -- no name nests deeper than the room, by the measures so far
    nests_look : (n : List ℕ) → (look n).nesting ≤ room
    nests_look n = by (cases_lt (index_of (names t) n) (length ks))
      where
        by : (index_of (names t) n < length ks) ⊎ (length ks ≤ index_of (names t) n) → (look n).nesting ≤ room
        by (inl l) = nests (index_of (names t) n) opaque_measure l
        by (inr g) = let e = ap (λ (m : Measure). m.nesting) (get_or_past ks (index_of (names t) n) opaque_measure g) in omega (arith, e, low)

    name_shaped : (n : List ℕ) → HasShape (name_shape (λ _. None) before_bodies room n)
    name_shaped n = has_shape (λ _. None) before_bodies look is.measured.structs_kept room (named n) (omega (arith, high)) (nests_look n)

    settled_new : (n : List ℕ) → new n ≡ pass_measure new (new n) (before_bodies n)
    settled_new n = let shaped = name_shaped n in settled (λ _. None) before_bodies looks passes_made room n shaped.0 shaped.1

    start_other : (n : List ℕ) → (n ≡ name → ⊥) → looks 0 n ≡ look n
    start_other n other =
        ap (λ ms. get_or ms (index_of (names t) n) opaque_measure) (passes-zero t.types (bodies t) start)
        ∙ get_or-set_other ks id (index_of (names t) n) defined opaque_measure (other_place n other)

    start_name : looks 0 name ≡ defined
    start_name =
        ap (λ ms. get_or ms (index_of (names t) name) opaque_measure) (passes-zero t.types (bodies t) start)
        ∙ ap (λ i. get_or start i opaque_measure) name_place
        ∙ get_or-set_same ks id defined opaque_measure (omega (arith, is.measured.as_many))

    -- the struct measures what its body does
    here : new name ≡ tree_body_measure look (after_bodies name)
    here = kept_measure (λ _. None) before_bodies looks passes_made name before room ∙ start_name ∙ defined_is

    -- and every other one what it stands for
    others : (n : List ℕ) → (n ≡ name → ⊥) → new n ≡ tree_body_measure new (before_bodies n)
    others n other = by (before_bodies n) refl
      where
        by : (b : TreeBody) → before_bodies n ≡ b → new n ≡ tree_body_measure new (before_bodies n)
        by opaque_body e =
            kept_measure (λ _. None) before_bodies looks passes_made n e room ∙ start_other n other ∙ is.measured.structs_kept n
            ∙ ap (tree_body_measure look) e ∙ sym (ap (tree_body_measure new) e)
        by (fields packed ts) e = settled_new n ∙ ap (pass_measure new (new n)) e ∙ sym (ap (tree_body_measure new) e)

    abbrev pub made_types : List Measure
    made_types = type_measures made t.types

    new_name : new name ≡ defined
    new_name = kept_measure (λ _. None) before_bodies looks passes_made name before room ∙ start_name

    near : (n : List ℕ) → (new n).nesting < 255
    near n =
        let shaped = name_shaped n in
        let d = ap (λ (m : Measure). m.nesting) new_name in
        let u = ap (λ (m : Measure). m.nesting) (is.measured.structs_kept name ∙ ap (tree_body_measure look) before) in
        let r = name_near (λ _. None) before_bodies name look new is.measured.structs_kept others (omega (arith, d, u, defined_nesting)) room n shaped.0 shaped.1 in
        omega (arith, r, small_look n)

    -- what the body measures once the passes are made
    body_made : body_measure made_types opaque_measure (Some body) ≡ tree_body_measure new (after_bodies name)
    body_made =
        ap (λ ms. body_measure ms opaque_measure (Some body)) (sym (trees-measures new (names t) made (had_at room) t.types (subst (λ c. AllKnown 0 c t.types) (sym many_names) is.measured.good.known)))
        ∙ sym (tree_body-measure new (names t) made (had_at room) (trees t) opaque_measure (Some body) known_trees)
        ∙ opaque_or (tree_body (trees t) (Some body))
        ∙ ap (tree_body_measure new) (sym after_name)
      where
        opaque_or : (b : TreeBody) → pass_measure new opaque_measure b ≡ tree_body_measure new b
        opaque_or opaque_body = refl
        opaque_or (fields packed ts) = refl

    body_deep : (tree_body_measure new (after_bodies name)).nesting ≡ (body_measure made_types opaque_measure (Some body)).nesting
    body_deep = ap (λ (m : Measure). m.nesting) (sym body_made)

    name_deep : defined.nesting ≡ (new name).nesting
    name_deep = ap (λ (m : Measure). m.nesting) (sym new_name)

    have_shapes : (b : TreeBody) → BodyShaped b → HaveShapes (λ _. None) before_bodies after_bodies name look new before same is.measured.structs_kept others here 64 b
    have_shapes opaque_body s = tt
    have_shapes (fields packed ts) s = s

    -- where the struct's body nests deeper than before, the struct contains itself
    pub defined_contains_itself : ((body_measure made_types opaque_measure (Some body)).nesting ≡ defined.nesting → ⊥) → SomeContainsItself after
    defined_contains_itself deeper =
        let h = contains_itself (λ _. None) before_bodies after_bodies name look new before same is.measured.structs_kept others here 64
        (have_shapes (after_bodies name) body_shaped) (λ e. deeper (sym body_deep ∙ e ∙ sym name_deep)) in
        (id, omega (arith, length-set t.structs id (name, Some body)), subst (λ n. BodyHolds after_bodies n (after_bodies n)) (ap (λ ns. get_or ns id []) (sym (names-defined t id body))) h)

    good_after : IsGood after
    good_after =
        let many = length-set t.structs id (name, Some body) in
        record {
          few = omega (arith, many, is.measured.good.few);
          known = subst (λ c. AllKnown 0 c t.types) (sym many) is.measured.good.known;
          known_bodies = subst (All (KnowsBody (length t.types))) (sym (bodies-defined t id body)) (All-set (KnowsBody (length t.types)) (bodies t) id (Some body) known is.measured.good.known_bodies);
          distinct = subst (AllPairs (λ a b. a ≢ b)) (sym (names-defined t id body)) is.measured.good.distinct;
        }

    -- where it does not, the measures are those of the new table
    measured_defined : (body_measure made_types opaque_measure (Some body)).nesting ≡ defined.nesting → IsMeasured after made made_types
    measured_defined as_deep = record {
      good = good_after;
      as_many = many_made room ∙ many_bodies ∙ sym (length-set t.structs id (name, Some body));
      types_kept = refl;
      structs_kept = subst (λ ns. Measures after_bodies (measure_of ns made)) (sym (names-defined t id body))
          (measures_after (λ _. None) before_bodies after_bodies name look new before same is.measured.structs_kept others here 64
          (have_shapes (after_bodies name) body_shaped) (near name) (body_deep ∙ as_deep ∙ name_deep));
    }

    pub kept_defined : (body_measure made_types opaque_measure (Some body)).nesting ≡ defined.nesting → All IsSmall (made_types ++ made) → IsKept after made made_types
    kept_defined as_deep small = record {
      measured = measured_defined as_deep;
      small_structs = All-right IsSmall made_types made small;
      small_types = All-left IsSmall made_types made small;
      lengths = is.lengths;
    }

    ends : (body_measure made_types opaque_measure (Some body)).nesting ≡ defined.nesting → SomeContainsItself after → ⊥
    ends as_deep = none_contains_itself after made made_types (measured_defined as_deep) small
      where
        small : All (λ m. m.nesting < 255) made
        small k d l =
            let n = near (get_or (names t) k []) in
            let e = ap (λ (m : Measure). m.nesting) (had_at room k (omega (arith, l, many_made room, many_bodies, many_names)) ∙ get_or_default made k opaque_measure d l) in
            omega (arith, n, e)

    pub defined_fault : (body_measure made_types opaque_measure (Some body)).nesting ≡ defined.nesting → (fault : TypeFault) → HasListFault (made_types ++ made) fault → HasFault after fault
    defined_fault as_deep Duplicate h = h
    defined_fault as_deep SelfContaining h = absurd h
    defined_fault as_deep TooDeep h = (ends as_deep, some_deep after made made_types (measured_defined as_deep) h)
    defined_fault as_deep TooLarge h =
        (ends as_deep, none_deep after made made_types (measured_defined as_deep) h.0, some_large after made made_types (measured_defined as_deep) h.0 h.1)
    defined_fault as_deep Memory h = absurd h

-- a body under its place is set as in a list of pairs
pub set_value_at-place : (es : List (List ℕ × Option StructBody)) (id : ℕ) (w : Option StructBody) → set_value_at es id w ≡ set es id (get_or (map (λ s. s.0) es) id [], w)
set_value_at-place [] id w = refl
set_value_at-place (e ∷ es) zero w = refl
set_value_at-place (e ∷ es) (suc id) w = ap (λ l. e ∷ l) (set_value_at-place es id w)

abbrev pub table_of : List IrType → List (List ℕ × Option StructBody) → Types
table_of types es = record { types = types; structs = es }

-- what the passes over a table make of it
pub defined_kept : (types : List IrType) (es fs : List (List ℕ × Option StructBody)) (ks kt ms mt : List Measure) → fs ≡ es → ms ≡ ks → mt ≡ kt → IsKept (table_of types es) ks kt → IsKept (table_of types fs) ms mt
defined_kept types es fs ks kt ms mt p q r is =
    subst (λ x. IsKept (table_of types x) ms mt) (sym p) (subst (λ x. IsKept (table_of types es) x mt) (sym q) (subst (λ x. IsKept (table_of types es) ks x) (sym r) is))

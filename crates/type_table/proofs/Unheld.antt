-- A table in which a struct is given its body while no type is its name: what is kept of all else stays.
use Rattle.std.proofs.Common.{◌≡◌, ℕ, zero, suc, ◌≤◌, ◌<◌, Bool, false, true≢false, List, [], ◌∷◌, ◌++◌, Option, Some, None, length, get_or, set, slice_get, ap, refl, sym, ◌∙◌, subst, arith, All, Any}
use Rattle.std.specs.List.{fold}
use Rattle.std.proofs.lemmas.List.{get_or-set_other, get_or-set_same, length-set, length-map}
use Rattle.std.proofs.lemmas.List.Elements.{All-head, All-tail, All-set, All-append}
use Rattle.std.proofs.lemmas.Option.{get_or_from_slice_get}
use Rattle.type_table.specs.declared.fault.TypeFault.{TypeFault}
use Rattle.type_table.specs.declared.fault.TypeFault.TheVariants.{Duplicate, SelfContaining, TooDeep, TooLarge, Memory}
use Rattle.type_table.specs.declared.ir_type.IrType.{IrType}
use Rattle.type_table.specs.declared.ir_type.IrType.TheVariants.{Int, Ptr, Void, Array, Struct, Named}
use Rattle.type_table.specs.declared.ir_type.StructBody.{StructBody}
use Rattle.type_table.specs.declared.ir_type.StructBody.TheVariants.{Opaque, Plain, Packed}
use Rattle.type_table.specs.declared.measure.Measure.{Measure}
use Rattle.type_table.specs.Kept.{IsSmall, IsLarge, IsMeasured, IsKept, IsFlagged, HasListFault}
use Rattle.type_table.specs.Limits.{HasFault}
use Rattle.type_table.specs.Measures.{measure_of, opaque_measure, body_measure, type_measure, push_measure, type_measures, struct_measures, passes, tree_body_measure, deepest_nesting}
use Rattle.type_table.specs.Types.{Types, with_body, names, bodies, trees, tree_body, KnowsBody, IsKnownBody}
use Rattle.type_table.proofs.Added.{length-trees}
use Rattle.type_table.proofs.Defined.{kept_defined, defined_fault, some_nesting, defined}
use Rattle.type_table.proofs.Judged.{agree, types_measured, as_names, Any-right}
use Rattle.type_table.proofs.PassLists.{passes-zero, passes-suc, deepest_most, deepest_bound}
use Rattle.type_table.proofs.Settled.{pass_measure}
use Rattle.type_table.proofs.UnderIds.{index_of-at, body_of-place, tree_body-measure}

module _ (held : List Bool) (ks : List Measure) (id : ℕ) (m : Measure) (free : get_or held id false ≡ false) where
  type_unmoved : (done : List Measure) (ty : IrType) → IsFlagged held ty → type_measure (set ks id m) done ty ≡ type_measure ks done ty
  type_unmoved done (Int w) flagged = refl
  type_unmoved done Ptr flagged = refl
  type_unmoved done Void flagged = refl
  type_unmoved done (Array n part) flagged = refl
  type_unmoved done (Struct packed parts) flagged = refl
  type_unmoved done (Named other) flagged =
      get_or-set_other ks id other m opaque_measure (λ e. true≢false (sym flagged ∙ ap (λ i. get_or held i false) e ∙ free))

  types_unmoved : (done : List Measure) (types : List IrType) → All (IsFlagged held) types → fold (push_measure (set ks id m)) done types ≡ fold (push_measure ks) done types
  types_unmoved done [] all = refl
  types_unmoved done (ty ∷ types) all =
      types_unmoved (push_measure (set ks id m) done ty) types (All-tail (IsFlagged held) ty types all)
      ∙ ap (λ d. fold (push_measure ks) d types) (λ j. done ++ type_unmoved done ty (All-head (IsFlagged held) ty types all) j ∷ [])

-- each struct measures what its body does
abbrev Stay : List Measure → List Measure → List (Option StructBody) → Type 0
Stay types ks bs = (i : ℕ) → i < length ks → body_measure types (get_or ks i opaque_measure) (get_or bs i None) ≡ get_or ks i opaque_measure

all_stay : (types ks : List Measure) (bs : List (Option StructBody)) → length ks ≡ length bs → Stay types ks bs → struct_measures types ks bs ≡ ks
all_stay types [] bs e stay = refl
all_stay types (k ∷ ks) [] e stay = absurd (omega arith)
all_stay types (k ∷ ks) (b ∷ bs) e stay = λ j. stay 0 (omega arith) j ∷ all_stay types ks bs (omega arith) (λ i lt. stay (suc i) (omega arith)) j

others_stay : (types ks : List Measure) (bs : List (Option StructBody)) (id : ℕ) (m : Measure) → length ks ≡ length bs → get_or bs id None ≡ None → Stay types ks bs
    → struct_measures types (set ks id m) bs ≡ set ks id m
others_stay types [] bs id m e none stay = refl
others_stay types (k ∷ ks) [] id m e none stay = absurd (omega arith)
others_stay types (k ∷ ks) (b ∷ bs) zero m e none stay = λ j. body_measure types m (none j) ∷ all_stay types ks bs (omega arith) (λ i lt. stay (suc i) (omega arith)) j
others_stay types (k ∷ ks) (b ∷ bs) (suc id) m e none stay =
    λ j. stay 0 (omega arith) j ∷ others_stay types ks bs id m (omega arith) none (λ i lt. stay (suc i) (omega arith)) j

module _ (t : Types) (ks kt : List Measure) (is : IsMeasured t ks kt) where
  abbrev look : List ℕ → Measure
  look = measure_of (names t) ks

  told : (i : ℕ) (b : Option StructBody) → KnowsBody (length (trees t)) b → body_measure kt (get_or ks i opaque_measure) b ≡ pass_measure look (get_or ks i opaque_measure) (tree_body (trees t) b)
  told i b k =
      sym (ap (λ ms. body_measure ms (get_or ks i opaque_measure) b) (types_measured t ks kt is))
      ∙ sym (tree_body-measure look (names t) ks (agree t ks kt is) (trees t) (get_or ks i opaque_measure) b k)

  named_at : (i : ℕ) → i < length ks → i < length (names t)
  named_at i lt = omega (arith, as_names t ks kt is, is.as_many)

  pub stands_at : (i : ℕ) → i < length ks → get_or ks i opaque_measure ≡ tree_body_measure look (tree_body (trees t) (get_or (bodies t) i None))
  stands_at i lt =
      sym (agree t ks kt is i (named_at i lt)) ∙ is.structs_kept (get_or (names t) i [])
      ∙ ap (tree_body_measure look) (body_of-place t (get_or (names t) i []) ∙ ap (λ k. tree_body (trees t) (get_or (bodies t) k None)) (index_of-at (names t) i is.good.distinct (named_at i lt)))

  by_body : (i : ℕ) (b : Option StructBody) → get_or ks i opaque_measure ≡ tree_body_measure look (tree_body (trees t) b) → KnowsBody (length (trees t)) b
      → body_measure kt (get_or ks i opaque_measure) b ≡ get_or ks i opaque_measure
  by_body i None at k = refl
  by_body i (Some Opaque) at k = refl
  by_body i (Some (Plain parts)) at k = told i (Some (Plain parts)) k ∙ sym at
  by_body i (Some (Packed parts)) at k = told i (Some (Packed parts)) k ∙ sym at

  structs_stay : Stay kt ks (bodies t)
  structs_stay i lt =
      by_body i (get_or (bodies t) i None) (stands_at i lt)
      (subst (λ n. KnowsBody n (get_or (bodies t) i None)) (sym (length-trees t)) (is.good.known_bodies i None (omega (arith, length-map t.structs (λ s. s.1), is.as_many))))

passes_stay : (types : List IrType) (bs : List (Option StructBody)) (start : List Measure) → struct_measures (type_measures start types) start bs ≡ start → (n : ℕ) → passes types bs start n ≡ start
passes_stay types bs start stays zero = passes-zero types bs start
passes_stay types bs start stays (suc n) =
    let before = passes_stay types bs start stays n in
    passes-suc types bs start n ∙ (λ j. struct_measures (type_measures (before j) types) (before j) bs) ∙ stays

module _ (t : Types) (ks kt : List Measure) (is : IsKept t ks kt) (id : ℕ) (lt : id < length t.structs) (undefined : slice_get (bodies t) id ≡ Some None)
    (body : StructBody) (known : IsKnownBody t body) (held : List Bool) (flagged : All (IsFlagged held) t.types) (free : get_or held id false ≡ false) where
  abbrev new : Measure
  new = defined t ks kt is id lt undefined body known

  abbrev start : List Measure
  start = set ks id new

  types_stay : type_measures start t.types ≡ kt
  types_stay = types_unmoved held ks id new free [] t.types flagged ∙ sym is.measured.types_kept

  start_stays : struct_measures (type_measures start t.types) start (bodies t) ≡ start
  start_stays =
      ap (λ ms. struct_measures ms start (bodies t)) types_stay
      ∙ others_stay kt ks (bodies t) id new (is.measured.as_many ∙ sym (length-map t.structs (λ s. s.1))) (get_or_from_slice_get (bodies t) id None None undefined) (structs_stay t ks kt is.measured)

  made_stays : passes t.types (bodies t) start (deepest_nesting ks) ≡ start
  made_stays = passes_stay t.types (bodies t) start start_stays (deepest_nesting ks)

  made_types_stay : type_measures (passes t.types (bodies t) start (deepest_nesting ks)) t.types ≡ kt
  made_types_stay = ap (λ ms. type_measures ms t.types) made_stays ∙ types_stay

  low : 1 ≤ deepest_nesting ks
  low = some_nesting t ks kt is id lt undefined body known

  high : deepest_nesting ks ≤ 64
  high = deepest_bound ks 64 (λ k d l. (is.small_structs k d l).nests)

  as_deep : (body_measure (type_measures (passes t.types (bodies t) start (deepest_nesting ks)) t.types) opaque_measure (Some body)).nesting ≡ new.nesting
  as_deep = ap (λ ms. (body_measure ms opaque_measure (Some body)).nesting) made_types_stay

  lists_stay : type_measures (passes t.types (bodies t) start (deepest_nesting ks)) t.types ++ passes t.types (bodies t) start (deepest_nesting ks) ≡ kt ++ start
  lists_stay = λ j. made_types_stay j ++ made_stays j

  all_small : IsSmall new → All IsSmall (kt ++ start)
  all_small small = All-append IsSmall kt start is.small_types (All-set IsSmall ks id new small is.small_structs)

  -- where it is small, what is kept is what was, but for the struct
  pub kept_unheld : IsSmall new → IsKept (with_body t id body) start kt
  kept_unheld small =
      let kept = kept_defined t ks kt is id lt undefined body known (deepest_nesting ks) low high (deepest_most ks) as_deep (subst (All IsSmall) (sym lists_stay) (all_small small)) in
      subst (λ ms. IsKept (with_body t id body) ms kt) made_stays (subst (λ ms. IsKept (with_body t id body) (passes t.types (bodies t) start (deepest_nesting ks)) ms) made_types_stay kept)

  at_place : (P : Measure → Type 0) → Any P (new ∷ []) → Any P (kt ++ start)
  at_place P some = Any-right P kt start (id, new, omega (arith, length-set ks id new, is.measured.as_many), get_or-set_same ks id new new (omega (arith, is.measured.as_many)), here some.0 some.1 some.2 some.3 some.4)
    where
      here : (k : ℕ) (x : Measure) → k < 1 → get_or (new ∷ []) k x ≡ x → P x → P new
      here zero x l e p = subst P (sym e) p
      here (suc k) x l e p = absurd (omega arith)

  fault_told : (fault : TypeFault) → HasListFault (new ∷ []) fault → HasListFault (kt ++ start) fault
  fault_told Duplicate h = h
  fault_told SelfContaining h = h
  fault_told TooDeep h = at_place (λ m. 64 < m.nesting) h
  fault_told TooLarge h = (
    (let P : Measure → Type 0 = λ m. m.nesting ≤ 64 in
        let nests : (ms : List Measure) → All IsSmall ms → All P ms = λ ms all k d l. (all k d l).nests in
        All-append P kt start (nests kt is.small_types) (All-set P ks id new (h.0 0 new (omega arith)) (nests ks is.small_structs))),
    at_place IsLarge h.1,
  )
  fault_told Memory h = h

  -- where it is not, that is what is wrong with the table
  pub fault_unheld : (fault : TypeFault) → HasListFault (new ∷ []) fault → HasFault (with_body t id body) fault
  fault_unheld fault h =
      defined_fault t ks kt is id lt undefined body known (deepest_nesting ks) low high (deepest_most ks) as_deep fault
      (subst (λ ms. HasListFault ms fault) (sym lists_stay) (fault_told fault h))

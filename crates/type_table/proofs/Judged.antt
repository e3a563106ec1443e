-- The limits of the measures that a table keeps are those of the shapes of its types.
use Rattle.std.proofs.Common.{◌≡◌, ℕ, zero, suc, ◌+◌, ◌-◌, ◌^◌, ◌≤◌, ◌<◌, Bool, true, false, List, [], ◌∷◌, ◌++◌, Option, Some, None, ◌⊎◌, inl, inr, map, length, get_or, ap, refl, sym, ◌∙◌, subst, arith, All, Any}
use Rattle.std.specs.List.{fold}
use Rattle.std.proofs.lemmas.List.{append-nil, append_assoc, map-append, length-append, get_or_append_left, get_or-append-add, get_or-append_right, get_or_default, length-map}
use Rattle.std.proofs.lemmas.List.Elements.{All-map, All-tail, All-append}
use Rattle.std.proofs.lemmas.Bool.{cases_lt}
use Rattle.type_table.specs.declared.ir_type.IrType.{IrType}
use Rattle.type_table.specs.declared.ir_type.IrType.TheVariants.{Int, Ptr, Void, Array, Struct, Named}
use Rattle.type_table.specs.declared.layout.Layout.{Layout}
use Rattle.type_table.specs.declared.measure.Measure.{Measure}
use Rattle.type_table.specs.Kept.{IsSmall, HasSmallSize, HasLargeSize, IsLarge, IsKept, IsMeasured, type_length}
use Rattle.type_table.specs.Layout.{has_layout, size, align, leaves}
use Rattle.type_table.specs.Limits.{IsTooDeep, IsTooLarge, IsWithinLimits, Fits, IsWithin, array_length, all_shapes, SomeContainsItself}
use Rattle.type_table.specs.Measures.{measure, opaque_measure, tree_measure, Measures, measure_of}
use Rattle.type_table.specs.Shape.{Label, Shape, int_leaf, ptr_leaf, void_leaf, opaque_leaf, array_of, struct_of, expanded, all_expanded, body_shape, name_shape, nesting, parts}
use Rattle.type_table.specs.Shape as shapes
use Rattle.type_table.specs.Tree.{Tree, int, ptr, void, array, struct, named, TreeBody, opaque_body, fields, body_of}
use Rattle.type_table.specs.Types.{Types, AllKnown, names, trees, structs, grow, tree_of}
use Rattle.type_table.proofs.Redefined.{never_contains_itself}
use Rattle.type_table.proofs.Rooms.{name_shape-zero, name_shape-suc, unmapped, has_shape, shape_measure}
use Rattle.type_table.proofs.ShapeMeasures.{if_laid, kept_layout}
use Rattle.type_table.proofs.UnderIds.{measure_of-at, trees-measures, get_or-map}

-- what holds of each, and of some, element of one list that was mapped, holds of the other
pub All-through : {A X Y : Type 0} (f : A → X) (g : A → Y) (P : X → Type 0) (Q : Y → Type 0) → ((a : A) → P (f a) → Q (g a)) → (xs : List A) → All P (map f xs) → All Q (map g xs)
All-through f g P Q h [] all k d lt = absurd (omega arith)
All-through f g P Q h (a ∷ xs) all zero d lt = h a (all 0 (f a) (omega arith))
All-through f g P Q h (a ∷ xs) all (suc k) d lt = All-through f g P Q h xs (All-tail P (f a) (map f xs) all) k d (omega arith)

All-through-both : {A X Y Z : Type 0} (f : A → X) (h : A → Z) (g : A → Y) (P : X → Type 0) (R : Z → Type 0) (Q : Y → Type 0) → ((a : A) → P (f a) → R (h a) → Q (g a)) → (xs : List A) → All P (map f xs) → All R (map h xs) → All Q (map g xs)
All-through-both f h g P R Q j [] all rest k d lt = absurd (omega arith)
All-through-both f h g P R Q j (a ∷ xs) all rest zero d lt = j a (all 0 (f a) (omega arith)) (rest 0 (h a) (omega arith))
All-through-both f h g P R Q j (a ∷ xs) all rest (suc k) d lt =
    All-through-both f h g P R Q j xs (All-tail P (f a) (map f xs) all) (All-tail R (h a) (map h xs) rest) k d (omega arith)

pub Any-through : {A X Y : Type 0} (f : A → X) (g : A → Y) (P : X → Type 0) (Q : Y → Type 0) → ((a : A) → P (f a) → Q (g a)) → (xs : List A) → Any P (map f xs) → Any Q (map g xs)
Any-through f g P Q h [] some = absurd (omega (arith, some.2))
Any-through {A} {X} {Y} f g P Q h (a ∷ xs) some = by (Any-through f g P Q h xs) some.0 some.1 some.2 some.3 some.4
  where
    by : (Any P (map f xs) → Any Q (map g xs)) → (k : ℕ) (x : X) → k < suc (length (map f xs)) → get_or (map f (a ∷ xs)) k x ≡ x → P x → Any Q (map g (a ∷ xs))
    by later zero x lt e p = (0, g a, omega arith, refl, h a (subst P (sym e) p))
    by later (suc k) x lt e p =
        let rest = later (k, x, omega arith, e, p) in
        (suc rest.0, rest.1, omega (arith, rest.2), rest.3, rest.4)

pub Any-map : {A X : Type 0} (f : A → X) (P : X → Type 0) (xs : List A) → Any (λ a. P (f a)) xs → Any P (map f xs)
Any-map f P xs some =
    (some.0, f some.1, omega (arith, some.2, length-map xs f), get_or-map f xs some.0 some.1 ∙ ap f some.3, some.4)

pub Any-left : {X : Type 0} (P : X → Type 0) (xs ys : List X) → Any P xs → Any P (xs ++ ys)
Any-left P xs ys some =
    let long = length-append xs ys in
    (some.0, some.1, omega (arith, long, some.2), get_or_append_left xs ys some.1 some.0 some.2 ∙ some.3, some.4)

pub Any-right : {X : Type 0} (P : X → Type 0) (xs ys : List X) → Any P ys → Any P (xs ++ ys)
Any-right P xs ys some =
    let long = length-append xs ys in
    (length xs + some.0, some.1, omega (arith, long, some.2), get_or-append-add xs ys some.0 some.1 ∙ some.3, some.4)

pub All-left : {X : Type 0} (P : X → Type 0) (xs ys : List X) → All P (xs ++ ys) → All P xs
All-left P xs ys all k d lt =
    let long = length-append xs ys in
    subst P (get_or_append_left xs ys d k lt) (all k d (omega (arith, long)))

pub All-right : {X : Type 0} (P : X → Type 0) (xs ys : List X) → All P (xs ++ ys) → All P ys
All-right P xs ys all k d lt =
    let long = length-append xs ys in
    subst P (get_or-append-add xs ys k d) (all (length xs + k) d (omega (arith, long)))

pub Any-append : {X : Type 0} (P : X → Type 0) (xs ys : List X) → Any P (xs ++ ys) → Any P xs ⊎ Any P ys
Any-append P xs ys some = by (cases_lt some.0 (length xs))
  where
    by : (some.0 < length xs) ⊎ (length xs ≤ some.0) → Any P xs ⊎ Any P ys
    by (inl lt) = inl (some.0, some.1, lt, sym (get_or_append_left xs ys some.1 some.0 lt) ∙ some.3, some.4)
    by (inr le) =
        let long = length-append xs ys in
        inr (some.0 - length xs, some.1, omega (arith, long, some.2), sym (get_or-append_right xs ys (length xs) some.0 some.1 refl le) ∙ some.3, some.4)

pub not_any : {X : Type 0} (P Q : X → Type 0) (xs : List X) → ((x : X) → (P x → ⊥) → Q x) → (Any P xs → ⊥) → All Q xs
not_any P Q xs h none k d lt = h (get_or xs k d) (λ p. none (k, get_or xs k d, lt, get_or_default xs k (get_or xs k d) d lt, p))

Any-both : {X : Type 0} (P Q : X → Type 0) (xs : List X) → All P xs → Any Q xs → Any (λ x. P x × Q x) xs
Any-both P Q xs all some = (some.0, some.1, some.2, some.3, (subst P some.3 (all some.0 some.1 some.2), some.4))

-- how many elements a tree has if it is an array
abbrev pub tree_length : Tree → ℕ
tree_length (int w) = 0
tree_length ptr = 0
tree_length void = 0
tree_length (array n t) = n
tree_length (struct packed ts) = 0
tree_length (named n) = 0

-- what is not past a limit is small
pub small_if : (m : Measure) → m.nesting ≤ 64 → (IsLarge m → ⊥) → IsSmall m
small_if m le fits = record { nests = le; parts_fit = omega (arith, λ (p : 2 ^ 20 < m.parts). fits (inl p)); size_fits = by m.layout (λ h. fits (inr h)) }
  where
    by : (l : Option Layout) → (HasLargeSize l → ⊥) → HasSmallSize l
    by None h = tt
    by (Some l) h = omega (arith, h)

pub laid_small : (b : Bool) (s a l : ℕ) → HasSmallSize (if_laid b s a l) → b ≡ true → s ≤ 2 ^ 40
laid_small true s a l small e = omega arith
laid_small false s a l small e = cc

laid_large : (b : Bool) (s a l : ℕ) → HasLargeSize (if_laid b s a l) → (b ≡ true) × (2 ^ 40 < s)
laid_large true s a l large = (refl, omega arith)
laid_large false s a l large = absurd large

module _ (label : List ℕ → Label) (bodies : List ℕ → TreeBody) (look : List ℕ → Measure) (is : Measures bodies look) where
  abbrev shape_of : Tree → Option Shape
  shape_of t = expanded (name_shape label bodies 64) t

  name_length : (room : ℕ) (n : List ℕ) (x : Shape) → name_shape label bodies room n ≡ Some x → array_length x ≡ 0
  name_length zero n x e = let none = name_shape-zero label bodies n in cc
  name_length (suc room) n x e = by (bodies n) (sym (name_shape-suc label bodies room n) ∙ e)
    where
      by : (body : TreeBody) → body_shape (name_shape label bodies room) (label n) body ≡ Some x → array_length x ≡ 0
      by opaque_body q = ap array_length (same x q)
        where
          same : (y : Shape) → Some (opaque_leaf (label n)) ≡ Some y → y ≡ opaque_leaf (label n)
          same y p = cc
      by (fields packed ts) q =
          let inside = unmapped (struct_of (label n) packed) (all_expanded (name_shape label bodies room) ts) x q in
          ap array_length (sym inside.2)

  shape_length : (t : Tree) (x : Shape) → shape_of t ≡ Some x → array_length x ≡ tree_length t
  shape_length (int w) x e = let y : int_leaf w ≡ x = cc in ap array_length (sym y)
  shape_length ptr x e = let y : ptr_leaf ≡ x = cc in ap array_length (sym y)
  shape_length void x e = let y : void_leaf ≡ x = cc in ap array_length (sym y)
  shape_length (array n t) x e = let inside = unmapped (array_of n) (shape_of t) x e in ap array_length (sym inside.2)
  shape_length (struct packed ts) x e = let inside = unmapped (struct_of None packed) (all_expanded (name_shape label bodies 64) ts) x e in ap array_length (sym inside.2)
  shape_length (named n) x e = name_length 64 n x e

  small_shape : (t : Tree) (x : Shape) → shape_of t ≡ Some x → IsSmall (tree_measure look t) → tree_length t ≤ 2 ^ 40 → Fits x
  small_shape t x e small long =
      let m = shape_measure label bodies look is 64 t x e in
      let n = ap (λ (k : Measure). k.nesting) m in
      let p = ap (λ (k : Measure). k.parts) m in
      let l = ap (λ (k : Measure). k.layout) m in
      let laid = subst HasSmallSize (sym l ∙ kept_layout x) small.size_fits in
      record {
        nests = omega (arith, n, small.nests);
        parts_fit = omega (arith, p, small.parts_fit);
        length_fits = omega (arith, shape_length t x e, long);
        size_fits = laid_small (has_layout x) (size x) (align x) (leaves x) laid;
      }

  pub tree_within : (t : Tree) → IsSmall (tree_measure look t) → tree_length t ≤ 2 ^ 40 → IsWithinLimits (shape_of t)
  tree_within t small long =
      let shaped = has_shape label bodies look is 64 t (omega arith) small.nests in
      subst IsWithinLimits (sym shaped.1) (small_shape t shaped.0 shaped.1 small long)

  pub tree_too_deep : (t : Tree) → 64 < (tree_measure look t).nesting → IsTooDeep (shape_of t)
  tree_too_deep t deep = by (shape_of t) refl
    where
      by : (o : Option Shape) → shape_of t ≡ o → IsTooDeep o
      by None e = tt
      by (Some x) e =
          let n = ap (λ (k : Measure). k.nesting) (shape_measure label bodies look is 64 t x e) in
          omega (arith, n, deep)

  pub tree_not_deep : (t : Tree) → (tree_measure look t).nesting ≤ 64 → IsTooDeep (shape_of t) → ⊥
  tree_not_deep t fits deep =
      let shaped = has_shape label bodies look is 64 t (omega arith) fits in
      let n = ap (λ (k : Measure). k.nesting) (shape_measure label bodies look is 64 t shaped.0 shaped.1) in
      let past : 64 < nesting shaped.0 = subst IsTooDeep shaped.1 deep in
      omega (arith, n, past, fits)

  pub tree_too_large : (t : Tree) → (tree_measure look t).nesting ≤ 64 → IsLarge (tree_measure look t) ⊎ (2 ^ 40 < tree_length t) → IsTooLarge (shape_of t)
  tree_too_large t fits large =
      let shaped = has_shape label bodies look is 64 t (omega arith) fits in
      let m = shape_measure label bodies look is 64 t shaped.0 shaped.1 in
      subst IsTooLarge (sym shaped.1) (by shaped.0 shaped.1 m large)
    where
      by : (x : Shape) → shape_of t ≡ Some x → measure x ≡ tree_measure look t → IsLarge (tree_measure look t) ⊎ (2 ^ 40 < tree_length t) → IsTooLarge (Some x)
      by x e m (inl (inl p)) = let q = ap (λ (k : Measure). k.parts) m in inl (omega (arith, p, q))
      by x e m (inl (inr s)) =
          let l = ap (λ (k : Measure). k.layout) m in
          inr (inr (laid_large (has_layout x) (size x) (align x) (leaves x) (subst HasLargeSize (sym l ∙ kept_layout x) s)))
      by x e m (inr long) = let q = shape_length t x e in inr (inl (omega (arith, q, long)))

map-named : (look : List ℕ → Measure) (ns : List (List ℕ)) → map (tree_measure look) (map named ns) ≡ map look ns
map-named look [] = refl
map-named look (n ∷ ns) = ap (λ l. look n ∷ l) (map-named look ns)

map-look : (look : List ℕ → Measure) (ns : List (List ℕ)) (ks : List Measure) → ((i : ℕ) → i < length ns → look (get_or ns i []) ≡ get_or ks i opaque_measure) → length ks ≡ length ns → map look ns ≡ ks
map-look look [] [] agree e = refl
map-look look [] (k ∷ ks) agree e = absurd (omega arith)
map-look look (n ∷ ns) [] agree e = absurd (omega arith)
map-look look (n ∷ ns) (k ∷ ks) agree e = λ j. agree 0 (omega arith) j ∷ map-look look ns ks (λ i lt. agree (suc i) (omega arith)) (omega arith) j

pub tree_of-length : (ns : List (List ℕ)) (done : List Tree) (ty : IrType) → tree_length (tree_of ns done ty) ≡ type_length ty
tree_of-length ns done (Int w) = refl
tree_of-length ns done Ptr = refl
tree_of-length ns done Void = refl
tree_of-length ns done (Array n part) = refl
tree_of-length ns done (Struct packed parts) = refl
tree_of-length ns done (Named id) = refl

grown_lengths : (ns : List (List ℕ)) (done : List Tree) (types : List IrType) → map tree_length (fold (grow ns) done types) ≡ map tree_length done ++ map type_length types
grown_lengths ns done [] = sym (append-nil (map tree_length done))
grown_lengths ns done (ty ∷ types) =
    grown_lengths ns (grow ns done ty) types
    ∙ ap (λ l. l ++ map type_length types) (map-append tree_length done (tree_of ns done ty ∷ []) ∙ (λ j. map tree_length done ++ tree_of-length ns done ty j ∷ []))
    ∙ append_assoc (map tree_length done) (type_length ty ∷ []) (map type_length types)

no_lengths : (ns : List (List ℕ)) → All (λ n. n ≤ 2 ^ 40) (map tree_length (map named ns))
no_lengths [] k d lt = absurd (omega arith)
no_lengths (n ∷ ns) zero d lt = omega arith
no_lengths (n ∷ ns) (suc k) d lt = no_lengths ns k d (omega arith)

module _ (t : Types) (ks kt : List Measure) (is : IsMeasured t ks kt) where
  abbrev pub look_of : List ℕ → Measure
  look_of = measure_of (names t) ks

  pub as_names : length (names t) ≡ length t.structs
  as_names = length-map t.structs (λ s. s.0)

  pub agree : (i : ℕ) → i < length (names t) → look_of (get_or (names t) i []) ≡ get_or ks i opaque_measure
  agree i lt = measure_of-at (names t) ks i is.good.distinct lt

  pub types_measured : map (tree_measure look_of) (trees t) ≡ kt
  types_measured = trees-measures look_of (names t) ks agree t.types (subst (λ n. AllKnown 0 n t.types) (sym as_names) is.good.known) ∙ sym is.types_kept

  all_measured : map (tree_measure look_of) (trees t ++ map named (names t)) ≡ kt ++ ks
  all_measured =
      map-append (tree_measure look_of) (trees t) (map named (names t))
      ∙ (λ j. types_measured j ++ (map-named look_of (names t) ∙ map-look look_of (names t) ks agree (is.as_many ∙ sym as_names)) j)

  abbrev shaped : Tree → Option Shape
  shaped = shapes.shape (structs t)

  pub some_deep : Any (λ m. 64 < m.nesting) (kt ++ ks) → Any IsTooDeep (all_shapes t)
  some_deep some =
      Any-through (tree_measure look_of) shaped (λ m. 64 < m.nesting) IsTooDeep (tree_too_deep (λ _. None) (body_of (structs t)) look_of is.structs_kept)
      (trees t ++ map named (names t)) (subst (Any (λ m. 64 < m.nesting)) (sym all_measured) some)

  pub none_deep : All (λ m. m.nesting ≤ 64) (kt ++ ks) → Any IsTooDeep (all_shapes t) → ⊥
  none_deep all some =
      let Q : Option Shape → Type 0 = λ o. IsTooDeep o → ⊥ in
      let none = All-through (tree_measure look_of) shaped (λ m. m.nesting ≤ 64) Q (tree_not_deep (λ _. None) (body_of (structs t)) look_of is.structs_kept)
      (trees t ++ map named (names t)) (subst (All (λ m. m.nesting ≤ 64)) (sym all_measured) all) in
      subst Q some.3 (none some.0 some.1 some.2) some.4

  pub some_large : All (λ m. m.nesting ≤ 64) (kt ++ ks) → Any IsLarge (kt ++ ks) → Any IsTooLarge (all_shapes t)
  some_large all some =
      Any-through (tree_measure look_of) shaped (λ m. (m.nesting ≤ 64) × IsLarge m) IsTooLarge
      (λ a p. tree_too_large (λ _. None) (body_of (structs t)) look_of is.structs_kept a p.0 (inl p.1))
      (trees t ++ map named (names t))
      (subst (Any (λ m. (m.nesting ≤ 64) × IsLarge m)) (sym all_measured) (Any-both (λ m. m.nesting ≤ 64) IsLarge (kt ++ ks) all some))

  pub none_contains_itself : All (λ m. m.nesting < 255) ks → SomeContainsItself t → ⊥
  none_contains_itself all some =
      let name = get_or (names t) some.0 [] in
      let at = ap (λ (m : Measure). m.nesting) (agree some.0 (omega (arith, as_names, some.1))) in
      let here = all some.0 opaque_measure (omega (arith, is.as_many, some.1)) in
      never_contains_itself (body_of (structs t)) look_of is.structs_kept name (omega (arith, at, here)) some.2

-- a table of which no measure and no length is past its limit is within the limits
pub within_kept : (t : Types) (ks kt : List Measure) → IsKept t ks kt → IsWithin t
within_kept t ks kt is = record { ends = none_contains_itself t ks kt is.measured small; fits = fits }
  where
    small : All (λ m. m.nesting < 255) ks
    small k d lt = let s = (is.small_structs k d lt).nests in omega (arith, s)

    measured : All IsSmall (map (tree_measure (look_of t ks kt is.measured)) (trees t ++ map named (names t)))
    measured = subst (All IsSmall) (sym (all_measured t ks kt is.measured)) (All-append IsSmall kt ks is.small_types is.small_structs)

    short : All (λ n. n ≤ 2 ^ 40) (map tree_length (trees t ++ map named (names t)))
    short =
        let P : ℕ → Type 0 = λ n. n ≤ 2 ^ 40 in
        subst (All P) (sym (map-append tree_length (trees t) (map named (names t))))
        (All-append P (map tree_length (trees t)) (map tree_length (map named (names t)))
        (subst (All P) (sym (grown_lengths (names t) [] t.types)) (All-map P type_length t.types is.lengths))
        (no_lengths (names t)))

    fits : All IsWithinLimits (all_shapes t)
    fits =
        All-through-both (tree_measure (look_of t ks kt is.measured)) tree_length (shapes.shape (structs t)) IsSmall (λ n. n ≤ 2 ^ 40) IsWithinLimits
        (tree_within (λ _. None) (body_of (structs t)) (look_of t ks kt is.measured) is.measured.structs_kept) (trees t ++ map named (names t)) measured short

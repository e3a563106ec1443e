-- A table with one type more: what stays, what is kept of it, and when it is past a limit.
use Rattle.std.proofs.Common.{true, false, ◌≡◌, ℕ, ◌+◌, ◌^◌, ◌≤◌, ◌<◌, List, [], ◌∷◌, ◌++◌, Option, Some, None, inr, map, length, ap, refl, sym, ◌∙◌, subst, arith, All, Any}
use Rattle.std.specs.List.{fold}
use Rattle.std.proofs.lemmas.Grind.{fold-append}
use Rattle.std.proofs.lemmas.List.{length_push, get_or_append_left}
use Rattle.std.proofs.lemmas.List.Elements.{All-head, All-tail, All-push, All-append, All-weaker}
use Rattle.std.proofs.lemmas.List.Quantifiers.{Any-push}
use Rattle.type_table.specs.declared.ir_type.IrType.{IrType}
use Rattle.type_table.specs.declared.ir_type.StructBody.{StructBody}
use Rattle.type_table.specs.declared.ir_type.StructBody.TheVariants.{Opaque, Plain, Packed}
use Rattle.type_table.specs.declared.measure.Measure.{Measure}
use Rattle.type_table.specs.declared.fault.TypeFault.TheVariants.{TooDeep, TooLarge}
use Rattle.type_table.specs.Kept.{IsSmall, IsLarge, IsMeasured, IsKept, type_length}
use Rattle.type_table.specs.Limits.{HasFault, IsTooLarge, SomeContainsItself, all_shapes}
use Rattle.type_table.specs.Measures.{Measures, measure_of, type_measure, push_measure, tree_measure}
use Rattle.type_table.specs.Shape as shapes
use Rattle.type_table.specs.Tree.{Tree, void, named, more_trees, fields, body_of}
use Rattle.type_table.specs.Types.{Types, with_type, names, bodies, trees, trees_at, tree_of, grow, tree_body, tree_struct, structs, Knows, AllKnown, KnowsBody, IsKnown, IsGood}
use Rattle.type_table.proofs.Judged.{some_deep, none_deep, some_large, none_contains_itself, small_if, Any-left, Any-map, tree_too_large, tree_of-length, agree, as_names, types_measured}
use Rattle.type_table.proofs.UnderIds.{tree_of-measure}

pub AllKnown-push : (count known : ℕ) (types : List IrType) (ty : IrType) → AllKnown count known types → Knows (count + length types) known ty → AllKnown count known (types ++ ty ∷ [])
AllKnown-push count known [] ty all here = (subst (λ n. Knows n known ty) (omega arith) here, tt)
AllKnown-push count known (t ∷ types) ty all here =
    (all.0, AllKnown-push (count + 1) known types ty all.1 (subst (λ n. Knows n known ty) (omega arith) here))

pub All-below : (m n : ℕ) (ids : List ℕ) → m ≤ n → All (λ id. id < m) ids → All (λ id. id < n) ids
All-below m n ids le all k d lt = let h = all k d lt in omega (arith, h)

KnowsBody-more : (m n : ℕ) (body : Option StructBody) → m ≤ n → KnowsBody m body → KnowsBody n body
KnowsBody-more m n None le k = k
KnowsBody-more m n (Some Opaque) le k = k
KnowsBody-more m n (Some (Plain parts)) le k = All-below m n parts le k
KnowsBody-more m n (Some (Packed parts)) le k = All-below m n parts le k

trees_at-push : (done : List Tree) (t : Tree) (ids : List ℕ) → All (λ id. id < length done) ids → trees_at (done ++ t ∷ []) ids ≡ trees_at done ids
trees_at-push done t [] known = refl
trees_at-push done t (id ∷ ids) known =
    let P : ℕ → Type 0 = λ k. k < length done in
    λ j. more_trees (get_or_append_left done (t ∷ []) void id (All-head P id ids known) j) (trees_at-push done t ids (All-tail P id ids known) j)

tree_body-push : (done : List Tree) (t : Tree) (body : Option StructBody) → KnowsBody (length done) body → tree_body (done ++ t ∷ []) body ≡ tree_body done body
tree_body-push done t None known = refl
tree_body-push done t (Some Opaque) known = refl
tree_body-push done t (Some (Plain parts)) known = ap (fields false) (trees_at-push done t parts known)
tree_body-push done t (Some (Packed parts)) known = ap (fields true) (trees_at-push done t parts known)

structs-push : (done : List Tree) (t : Tree) (es : List (List ℕ × Option StructBody)) → All (KnowsBody (length done)) (map (λ s. s.1) es)
    → map (tree_struct (done ++ t ∷ [])) es ≡ map (tree_struct done) es
structs-push done t [] known = refl
structs-push done t (e ∷ es) known =
    let P = KnowsBody (length done) in
    λ j. (e.0, tree_body-push done t e.1 (All-head P e.1 (map (λ s. s.1) es) known) j) ∷ structs-push done t es (All-tail P e.1 (map (λ s. s.1) es) known) j

grown-length : (ns : List (List ℕ)) (done : List Tree) (types : List IrType) → length (fold (grow ns) done types) ≡ length done + length types
grown-length ns done [] = omega arith
grown-length ns done (ty ∷ types) =
    let rest = grown-length ns (grow ns done ty) types in
    let one = length_push done (tree_of ns done ty) in
    omega (arith, rest, one)

-- there is a tree for each type
pub length-trees : (t : Types) → length (trees t) ≡ length t.types
length-trees t = let e = grown-length (names t) [] t.types in omega (arith, e)

pub trees-with : (t : Types) (ty : IrType) → trees (with_type t ty) ≡ trees t ++ tree_of (names t) (trees t) ty ∷ []
trees-with t ty = fold-append (grow (names t)) [] t.types (ty ∷ [])

-- the structs stay
pub structs-with : (t : Types) (ty : IrType) → IsGood t → structs (with_type t ty) ≡ structs t
structs-with t ty good =
    ap (λ ts. map (tree_struct ts) t.structs) (trees-with t ty)
    ∙ structs-push (trees t) (tree_of (names t) (trees t) ty) t.structs (subst (λ n. All (KnowsBody n) (bodies t)) (sym (length-trees t)) good.known_bodies)

module _ (t : Types) (ks kt : List Measure) (is : IsKept t ks kt) (ty : IrType) (known : IsKnown t ty) where
  abbrev pub added : Measure
  added = type_measure ks kt ty

  good_with : IsGood (with_type t ty)
  good_with =
      let more : length (t.types ++ ty ∷ []) ≡ length t.types + 1 = length_push t.types ty in
      record {
        few = is.measured.good.few;
        known = AllKnown-push 0 (length t.structs) t.types ty is.measured.good.known (subst (λ n. Knows n (length t.structs) ty) (omega arith) known);
        known_bodies = All-weaker (KnowsBody (length t.types)) (KnowsBody (length (t.types ++ ty ∷ []))) (λ b. KnowsBody-more (length t.types) (length (t.types ++ ty ∷ [])) b (omega arith)) (bodies t) is.measured.good.known_bodies;
        distinct = is.measured.good.distinct;
      }

  measured_with : IsMeasured (with_type t ty) ks (kt ++ added ∷ [])
  measured_with = record {
    good = good_with;
    as_many = is.measured.as_many;
    types_kept = ap (λ ms. push_measure ks ms ty) is.measured.types_kept ∙ sym (fold-append (push_measure ks) [] t.types (ty ∷ []));
    structs_kept = subst (λ ss. Measures (body_of ss) (measure_of (names t) ks)) (sym (structs-with t ty is.measured.good)) is.measured.structs_kept;
  }

  nests : All (λ m. m.nesting ≤ 64) ks
  nests k d lt = (is.small_structs k d lt).nests

  type_nests : All (λ m. m.nesting ≤ 64) kt
  type_nests k d lt = (is.small_types k d lt).nests

  all_nest : added.nesting ≤ 64 → All (λ m. m.nesting ≤ 64) ((kt ++ added ∷ []) ++ ks)
  all_nest le =
      let P : Measure → Type 0 = λ m. m.nesting ≤ 64 in
      All-append P (kt ++ added ∷ []) ks (All-push P kt added type_nests le) nests

  ends : (SomeContainsItself (with_type t ty) → ⊥)
  ends = none_contains_itself (with_type t ty) ks (kt ++ added ∷ []) measured_with (λ k d lt. let n = nests k d lt in omega (arith, n))

  pub added_too_deep : 64 < added.nesting → HasFault (with_type t ty) TooDeep
  added_too_deep deep = (
    ends,
    some_deep (with_type t ty) ks (kt ++ added ∷ []) measured_with
        (Any-left (λ m. 64 < m.nesting) (kt ++ added ∷ []) ks (Any-push (λ m. 64 < m.nesting) kt added deep)),
  )

  pub added_too_large : added.nesting ≤ 64 → IsLarge added → HasFault (with_type t ty) TooLarge
  added_too_large le large = (
    ends,
    none_deep (with_type t ty) ks (kt ++ added ∷ []) measured_with (all_nest le),
    some_large (with_type t ty) ks (kt ++ added ∷ []) measured_with (all_nest le)
        (Any-left IsLarge (kt ++ added ∷ []) ks (Any-push IsLarge kt added large)),
  )

  abbrev added_tree : Tree
  added_tree = tree_of (names t) (trees t) ty

  added_measure : tree_measure (measure_of (names t) ks) added_tree ≡ added
  added_measure =
      tree_of-measure (measure_of (names t) ks) (names t) ks (agree t ks kt is.measured) (trees t) ty
      (subst (λ n. Knows n (length (names t)) ty) (sym (length-trees t)) (subst (λ n. Knows (length t.types) n ty) (sym (as_names t ks kt is.measured)) known))
      ∙ ap (λ ms. type_measure ks ms ty) (types_measured t ks kt is.measured)

  added_nesting : (tree_measure (measure_of (names t) ks) added_tree).nesting ≡ added.nesting
  added_nesting = ap (λ (m : Measure). m.nesting) added_measure

  pub added_too_long : added.nesting ≤ 64 → 2 ^ 40 < type_length ty → HasFault (with_type t ty) TooLarge
  added_too_long le long = (ends, none_deep (with_type t ty) ks (kt ++ added ∷ []) measured_with (all_nest le), long_shape)
    where
      long_shape : Any IsTooLarge (all_shapes (with_type t ty))
      long_shape =
          Any-map (shapes.shape (structs (with_type t ty))) IsTooLarge (trees (with_type t ty) ++ map named (names t))
          (Any-left (λ a. IsTooLarge (shapes.shape (structs (with_type t ty)) a)) (trees (with_type t ty)) (map named (names t))
          (subst (Any (λ a. IsTooLarge (shapes.shape (structs (with_type t ty)) a))) (sym (trees-with t ty))
          (Any-push (λ a. IsTooLarge (shapes.shape (structs (with_type t ty)) a)) (trees t) added_tree
          (tree_too_large (λ _. None) (body_of (structs (with_type t ty))) (measure_of (names t) ks) measured_with.structs_kept added_tree
          (omega (arith, added_nesting, le)) (inr (omega (arith, tree_of-length (names t) (trees t) ty, long)))))))

  pub kept_with : added.nesting ≤ 64 → (IsLarge added → ⊥) → (2 ^ 40 < type_length ty → ⊥) → IsKept (with_type t ty) ks (kt ++ added ∷ [])
  kept_with le fits short = record {
    measured = measured_with;
    small_structs = is.small_structs;
    small_types = All-push IsSmall kt added is.small_types (small_if added le fits);
    lengths = All-push (λ x. type_length x ≤ 2 ^ 40) t.types ty is.lengths (omega (arith, short));
  }

abbrev pub table_of : List IrType → List (List ℕ × Option StructBody) → Types
table_of types es = record { types = types; structs = es }

pub kept_same : (types us : List IrType) (es : List (List ℕ × Option StructBody)) (ks kt ms : List Measure) → us ≡ types → ms ≡ kt → IsKept (table_of types es) ks kt → IsKept (table_of us es) ks ms
kept_same types us es ks kt ms p q is =
    subst (λ x. IsKept (table_of x es) ks ms) (sym p) (subst (λ x. IsKept (table_of types es) ks x) (sym q) is)

-- A table with one struct more, which has no body yet.
use Rattle.std.proofs.Common.{◌≡◌, ◌≢◌, ℕ, zero, suc, ◌+◌, ◌-◌, ◌^◌, ◌≤◌, ◌<◌, Bool, true, false, cond, List, [], ◌∷◌, ◌++◌, Option, None, length, get_or, bytes_eq, ap, refl, sym, ◌∙◌, subst, arith, All, AllPairs, Contains}
use Rattle.std.specs.List.{fold}
use Rattle.std.proofs.lemmas.List.{map-append, length_push, length-map, get_or_append_left, get_or_default}
use Rattle.std.proofs.lemmas.List.Elements.{All-push}
use Rattle.std.proofs.lemmas.List.Quantifiers.{all_pairs_push}
use Rattle.type_table.specs.declared.ir_type.IrType.{IrType}
use Rattle.type_table.specs.declared.ir_type.IrType.TheVariants.{Int, Ptr, Void, Array, Struct, Named}
use Rattle.type_table.specs.declared.ir_type.StructBody.{StructBody}
use Rattle.type_table.specs.declared.measure.Measure.{Measure}
use Rattle.type_table.specs.Kept.{IsSmall, IsKept}
use Rattle.type_table.specs.Measures.{Measures, measure_of, opaque_measure, type_measure}
use Rattle.type_table.specs.Tree.{Tree, named, body_of, index_of}
use Rattle.type_table.specs.Types.{Types, with_struct, names, bodies, trees, tree_of, grow, tree_body, structs, Knows, AllKnown, KnowsBody, IsGood}
use Rattle.type_table.proofs.UnderIds.{body_of-place}

Knows-more : (count known more : ℕ) (ty : IrType) → known ≤ more → Knows count known ty → Knows count more ty
Knows-more count known more (Int w) le k = k
Knows-more count known more Ptr le k = k
Knows-more count known more Void le k = k
Knows-more count known more (Array n part) le k = k
Knows-more count known more (Struct packed parts) le k = k
Knows-more count known more (Named id) le k = omega arith

AllKnown-more : (count known more : ℕ) (types : List IrType) → known ≤ more → AllKnown count known types → AllKnown count more types
AllKnown-more count known more [] le all = tt
AllKnown-more count known more (ty ∷ types) le all = (Knows-more count known more ty le all.0, AllKnown-more (count + 1) known more types le all.1)

-- a type that the table knows has the same tree after one more name
tree_of-more : (ns : List (List ℕ)) (n : List ℕ) (done : List Tree) (count : ℕ) (ty : IrType) → Knows count (length ns) ty → tree_of (ns ++ n ∷ []) done ty ≡ tree_of ns done ty
tree_of-more ns n done count (Int w) k = refl
tree_of-more ns n done count Ptr k = refl
tree_of-more ns n done count Void k = refl
tree_of-more ns n done count (Array m part) k = refl
tree_of-more ns n done count (Struct packed parts) k = refl
tree_of-more ns n done count (Named id) k = ap named (get_or_append_left ns (n ∷ []) [] id k)

trees-more : (ns : List (List ℕ)) (n : List ℕ) (done : List Tree) (count : ℕ) (types : List IrType) → AllKnown count (length ns) types → fold (grow (ns ++ n ∷ [])) done types ≡ fold (grow ns) done types
trees-more ns n done count [] all = refl
trees-more ns n done count (ty ∷ types) all =
    ap (λ tree. fold (grow (ns ++ n ∷ [])) (done ++ tree ∷ []) types) (tree_of-more ns n done count ty all.0)
    ∙ trees-more ns n (grow ns done ty) (count + 1) types all.1

-- a default at the end changes no element
pub get_or-push_default : {X : Type 0} (xs : List X) (i : ℕ) (d : X) → get_or (xs ++ d ∷ []) i d ≡ get_or xs i d
get_or-push_default [] zero d = refl
get_or-push_default [] (suc i) d = refl
get_or-push_default (x ∷ xs) zero d = refl
get_or-push_default (x ∷ xs) (suc i) d = get_or-push_default xs i d

-- nor does a name at the end move what was found under names
get_or-index_more : {X : Type 0} (ns : List (List ℕ)) (xs : List X) (m n : List ℕ) (d : X) → length xs ≤ length ns → get_or xs (index_of (ns ++ m ∷ []) n) d ≡ get_or xs (index_of ns n) d
get_or-index_more [] [] m n d le = refl
get_or-index_more [] (x ∷ xs) m n d le = absurd (omega arith)
get_or-index_more (k ∷ ns) [] m n d le = refl
get_or-index_more {X} (k ∷ ns) (x ∷ xs) m n d le = by (bytes_eq k n) (get_or-index_more ns xs m n d (omega arith))
  where
    by : (b : Bool) → get_or xs (index_of (ns ++ m ∷ []) n) d ≡ get_or xs (index_of ns n) d
        → get_or (x ∷ xs) (cond b 0 (suc (index_of (ns ++ m ∷ []) n))) d ≡ get_or (x ∷ xs) (cond b 0 (suc (index_of ns n))) d
    by true rest = refl
    by false rest = rest

type_measure-more : (ks done : List Measure) (ty : IrType) → type_measure (ks ++ opaque_measure ∷ []) done ty ≡ type_measure ks done ty
type_measure-more ks done (Int w) = refl
type_measure-more ks done Ptr = refl
type_measure-more ks done Void = refl
type_measure-more ks done (Array n part) = refl
type_measure-more ks done (Struct packed parts) = refl
type_measure-more ks done (Named id) = get_or-push_default ks id opaque_measure

names-with : (t : Types) (name : List ℕ) → names (with_struct t name) ≡ names t ++ name ∷ []
names-with t name = map-append (λ s. s.0) t.structs ((name, None) ∷ [])

bodies-with : (t : Types) (name : List ℕ) → bodies (with_struct t name) ≡ bodies t ++ None ∷ []
bodies-with t name = map-append (λ s. s.1) t.structs ((name, None) ∷ [])

module _ (t : Types) (good : IsGood t) (name : List ℕ) where
  -- the trees stay
  pub trees-named : trees (with_struct t name) ≡ trees t
  trees-named =
      ap (λ ns. fold (grow ns) [] t.types) (names-with t name)
      ∙ trees-more (names t) name [] 0 t.types (subst (λ k. AllKnown 0 k t.types) (sym (length-map t.structs (λ s. s.0))) good.known)

  same_body : (n : List ℕ) → body_of (structs (with_struct t name)) n ≡ body_of (structs t) n
  same_body n =
      body_of-place (with_struct t name) n
      ∙ (λ j. tree_body (trees-named j) (get_or (bodies-with t name j) (index_of (names-with t name j) n) None))
      ∙ ap (tree_body (trees t)) (get_or-push_default (bodies t) (index_of (names t ++ name ∷ []) n) None ∙ get_or-index_more (names t) (bodies t) name n None (omega (arith, length-map t.structs (λ s. s.0), length-map t.structs (λ s. s.1))))
      ∙ sym (body_of-place t n)

  -- each name stands for what it stood for
  pub bodies-named : body_of (structs (with_struct t name)) ≡ body_of (structs t)
  bodies-named = λ j n. same_body n j

  pub good_named : length t.structs < 2 ^ 32 - 1 → (Contains (names t) name → ⊥) → IsGood (with_struct t name)
  good_named few absent =
      let longer : length (t.structs ++ (name, None) ∷ []) ≡ length t.structs + 1 = length_push t.structs (name, None) in
      record {
        few = omega arith;
        known = AllKnown-more 0 (length t.structs) (length (t.structs ++ (name, None) ∷ [])) t.types (omega arith) good.known;
        known_bodies = subst (All (KnowsBody (length t.types))) (sym (bodies-with t name)) (All-push (KnowsBody (length t.types)) (bodies t) None good.known_bodies tt);
        distinct = subst (AllPairs (λ a b. a ≢ b)) (sym (names-with t name))
            (all_pairs_push (λ a b. a ≢ b) (names t) name good.distinct (λ k d lt e. absent (k, lt, get_or_default (names t) k name d lt ∙ e)));
      }

pub kept_named : (t : Types) (ks kt : List Measure) → IsKept t ks kt → (name : List ℕ) → length t.structs < 2 ^ 32 - 1 → (Contains (names t) name → ⊥) → IsKept (with_struct t name) (ks ++ opaque_measure ∷ []) kt
kept_named t ks kt is name few absent = record {
  measured = record {
    good = good_named t is.measured.good name few absent;
    as_many = as_many;
    types_kept = is.measured.types_kept ∙ (λ j. fold (λ done ty. done ++ sym (type_measure-more ks done ty) j ∷ []) [] t.types);
    structs_kept = subst (λ f. Measures f (measure_of (names (with_struct t name)) (ks ++ opaque_measure ∷ []))) (sym (bodies-named t is.measured.good name))
        (subst (Measures (body_of (structs t))) (sym looks) is.measured.structs_kept);
  };
  small_structs = All-push IsSmall ks opaque_measure is.small_structs (record { nests = omega arith; parts_fit = omega arith; size_fits = tt });
  small_types = is.small_types;
  lengths = is.lengths;
}
  where
    as_many : length (ks ++ opaque_measure ∷ []) ≡ length (t.structs ++ (name, None) ∷ [])
    as_many = omega (arith, length_push ks opaque_measure, length_push t.structs (name, None), is.measured.as_many)

    looks : measure_of (names (with_struct t name)) (ks ++ opaque_measure ∷ []) ≡ measure_of (names t) ks
    looks = λ j n.
        (ap (λ ns. get_or (ks ++ opaque_measure ∷ []) (index_of ns n) opaque_measure) (names-with t name)
        ∙ get_or-push_default ks (index_of (names t ++ name ∷ []) n) opaque_measure
        ∙ get_or-index_more (names t) ks name n opaque_measure (omega (arith, is.measured.as_many, length-map t.structs (λ s. s.0)))) j

abbrev table_of : List IrType → List (List ℕ × Option StructBody) → Types
table_of types es = record { types = types; structs = es }

pub kept_moved : (types : List IrType) (es fs : List (List ℕ × Option StructBody)) (ks ms kt : List Measure) → fs ≡ es → ms ≡ ks → IsKept (table_of types es) ks kt → IsKept (table_of types fs) ms kt
kept_moved types es fs ks ms kt p q is =
    subst (λ x. IsKept (table_of types x) ms kt) (sym p) (subst (λ x. IsKept (table_of types es) x kt) (sym q) is)

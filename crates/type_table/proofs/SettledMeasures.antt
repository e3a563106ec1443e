-- Where a pass over a table changes no measure of a struct, and those without fields measure nothing, the measures are the table's.
use Rattle.std.proofs.Common.{◌≡◌, ℕ, ◌≤◌, ◌<◌, ◌^◌, List, [], ◌++◌, Option, Some, None, ◌⊎◌, inl, inr, map, length, get_or, ap, refl, sym, ◌∙◌, subst, All}
use Rattle.std.proofs.lemmas.Bool.{cases_lt}
use Rattle.std.proofs.lemmas.List.{length-map, get_or_past}
use Rattle.type_table.specs.declared.ir_type.StructBody.{StructBody}
use Rattle.type_table.specs.declared.ir_type.StructBody.TheVariants.{Opaque, Plain, Packed}
use Rattle.type_table.specs.declared.measure.Measure.{Measure}
use Rattle.type_table.specs.Kept.{IsSmall, IsMeasured, IsKept, type_length}
use Rattle.type_table.specs.Batch.{IsOpen}
use Rattle.type_table.specs.Measures.{Measures, measure_of, opaque_measure, body_measure, type_measures, struct_measures, tree_measure, tree_body_measure}
use Rattle.type_table.specs.Tree.{body_of, index_of}
use Rattle.type_table.specs.Types.{Types, IsGood, names, bodies, trees, structs, tree_body, AllKnown, KnowsBody}
use Rattle.type_table.proofs.Added.{length-trees}
use Rattle.type_table.proofs.Judged.{All-left, All-right}
use Rattle.type_table.proofs.PassLists.{get_or-struct_measures}
use Rattle.type_table.proofs.Settled.{pass_measure}
use Rattle.type_table.proofs.UnderIds.{body_of-place, measure_of-at, trees-measures, tree_body-measure}

module _ (t : Types) (good : IsGood t) (ms : List Measure) (many : length ms ≡ length t.structs)
    (rest : struct_measures (type_measures ms t.types) ms (bodies t) ≡ ms)
    (none_known : (i : ℕ) → i < length ms → IsOpen (get_or (bodies t) i None) → get_or ms i opaque_measure ≡ opaque_measure) where
  abbrev look : List ℕ → Measure
  look = measure_of (names t) ms

  many_names : length (names t) ≡ length t.structs
  many_names = length-map t.structs (λ s. s.0)

  many_bodies : length (bodies t) ≡ length t.structs
  many_bodies = length-map t.structs (λ s. s.1)

  agree : (i : ℕ) → i < length (names t) → look (get_or (names t) i []) ≡ get_or ms i opaque_measure
  agree i lt = measure_of-at (names t) ms i good.distinct lt

  types_are : map (tree_measure look) (trees t) ≡ type_measures ms t.types
  types_are = trees-measures look (names t) ms agree t.types (subst (λ n. AllKnown 0 n t.types) (sym many_names) good.known)

  known_at : (i : ℕ) → KnowsBody (length (trees t)) (get_or (bodies t) i None)
  known_at i = by (cases_lt i (length (bodies t)))
    where
      by : (i < length (bodies t)) ⊎ (length (bodies t) ≤ i) → KnowsBody (length (trees t)) (get_or (bodies t) i None)
      by (inl lt) = subst (λ n. KnowsBody n (get_or (bodies t) i None)) (sym (length-trees t)) (good.known_bodies i None lt)
      by (inr past) = subst (KnowsBody (length (trees t))) (sym (get_or_past (bodies t) i None past)) tt

  open_at : (i : ℕ) → IsOpen (get_or (bodies t) i None) → get_or ms i opaque_measure ≡ opaque_measure
  open_at i is = by (cases_lt i (length ms))
    where
      by : (i < length ms) ⊎ (length ms ≤ i) → get_or ms i opaque_measure ≡ opaque_measure
      by (inl lt) = none_known i lt is
      by (inr past) = get_or_past ms i opaque_measure past

  measured_at : (i : ℕ) → get_or ms i opaque_measure ≡ pass_measure look (get_or ms i opaque_measure) (tree_body (trees t) (get_or (bodies t) i None))
  measured_at i =
      sym (ap (λ l. get_or l i opaque_measure) rest)
      ∙ get_or-struct_measures (type_measures ms t.types) ms (bodies t) i (many ∙ sym many_bodies)
      ∙ ap (λ l. body_measure l (get_or ms i opaque_measure) (get_or (bodies t) i None)) (sym types_are)
      ∙ sym (tree_body-measure look (names t) ms agree (trees t) (get_or ms i opaque_measure) (get_or (bodies t) i None) (known_at i))

  closed_at : (i : ℕ) → pass_measure look (get_or ms i opaque_measure) (tree_body (trees t) (get_or (bodies t) i None)) ≡ tree_body_measure look (tree_body (trees t) (get_or (bodies t) i None))
  closed_at i = by (get_or (bodies t) i None) (open_at i)
    where
      by : (b : Option StructBody) → (IsOpen b → get_or ms i opaque_measure ≡ opaque_measure) → pass_measure look (get_or ms i opaque_measure) (tree_body (trees t) b) ≡ tree_body_measure look (tree_body (trees t) b)
      by None none = none tt
      by (Some Opaque) none = none tt
      by (Some (Plain parts)) none = refl
      by (Some (Packed parts)) none = refl

  stands : Measures (body_of (structs t)) look
  stands n = measured_at (index_of (names t) n) ∙ closed_at (index_of (names t) n) ∙ ap (tree_body_measure look) (sym (body_of-place t n))

  pub measured_at_rest : IsMeasured t ms (type_measures ms t.types)
  measured_at_rest = record { good = good; as_many = many; types_kept = refl; structs_kept = stands }

  pub kept_at_rest : All (λ ty. type_length ty ≤ 2 ^ 40) t.types → All IsSmall (type_measures ms t.types ++ ms) → IsKept t ms (type_measures ms t.types)
  kept_at_rest lengths small = record {
    measured = measured_at_rest;
    small_structs = All-right IsSmall (type_measures ms t.types) ms small;
    small_types = All-left IsSmall (type_measures ms t.types) ms small;
    lengths = lengths;
  }

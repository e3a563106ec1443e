-- A table whose structs are given their bodies at once: what is kept of it, and that it stays within its limits.
use Rattle.std.proofs.Common.{◌≡◌, ℕ, ◌+◌, ◌≤◌, ◌<◌, ◌^◌, Bool, List, ◌++◌, Option, Some, None, ◌⊎◌, inl, inr, length, get_or, refl, sym, ◌∙◌, subst, arith, All}
use Rattle.std.proofs.lemmas.Bool.{cases_lt}
use Rattle.std.proofs.lemmas.Option.{get_or_from_slice_get}
use Rattle.type_table.specs.declared.ir_type.IrType.{IrType}
use Rattle.type_table.specs.declared.ir_type.StructBody.{StructBody}
use Rattle.type_table.specs.declared.ir_type.StructBody.TheVariants.{Opaque, Plain, Packed}
use Rattle.type_table.specs.declared.measure.Measure.{Measure}
use Rattle.type_table.specs.Kept.{IsFlagged, IsKept, IsSmall, IsTable, type_length}
use Rattle.type_table.specs.Measures.{measure_of, opaque_measure, struct_measures, tree_body_measure, type_measures}
use Rattle.type_table.specs.Types.{Types, IsKnownBody, bodies, names, tree_body, trees}
use Rattle.type_table.specs.Batch.{IsOpen, StaysWithin, set_from, with_bodies}
use Rattle.type_table.proofs.SettledMeasures.{kept_at_rest}
use Rattle.type_table.proofs.Given.{AreUndefined, bodies-given, good-given, many-given, stays_within, types-given}
use Rattle.type_table.proofs.Judged.{within_kept}
use Rattle.type_table.proofs.SetFrom.{set_from-other}
use Rattle.type_table.proofs.Unheld.{stands_at}

module _ (t : Types) (ks kt : List Measure) (flags : List Bool) (is : IsTable t ks kt flags) (first : ℕ) (given : List StructBody) (fit : first + length given ≤ length t.structs)
    (known : All (IsKnownBody t) given) (none : AreUndefined t first (length given)) (ms : List Measure) (many : length ms ≡ length t.structs)
    (rest : struct_measures (type_measures ms t.types) ms (set_from (bodies t) first given) ≡ ms)
    (open_kept : (k : ℕ) → IsOpen (get_or (set_from (bodies t) first given) k None) → get_or ms k opaque_measure ≡ get_or ks k opaque_measure)
    (small : All IsSmall (type_measures ms t.types ++ ms)) where
  abbrev after : Types
  after = with_bodies t first given

  -- what has no fields then had none before
  open_before : (k : ℕ) → IsOpen (get_or (set_from (bodies t) first given) k None) → IsOpen (get_or (bodies t) k None)
  open_before k is_open = by (cases_lt k first) (cases_lt k (first + length given))
    where
      by : (k < first) ⊎ (first ≤ k) → (k < first + length given) ⊎ (first + length given ≤ k) → IsOpen (get_or (bodies t) k None)
      by (inl before) end = subst IsOpen (set_from-other (bodies t) first given k None (inl before)) is_open
      by (inr from) (inl to) = subst IsOpen (sym (get_or_from_slice_get (bodies t) k None None (none k from to))) tt
      by (inr from) (inr past) = subst IsOpen (set_from-other (bodies t) first given k None (inr past)) is_open

  measures_nothing : (b : Option StructBody) → IsOpen b → tree_body_measure (measure_of (names t) ks) (tree_body (trees t) b) ≡ opaque_measure
  measures_nothing None o = refl
  measures_nothing (Some Opaque) o = refl
  measures_nothing (Some (Plain parts)) o = absurd o
  measures_nothing (Some (Packed parts)) o = absurd o

  none_known : (i : ℕ) → i < length ms → IsOpen (get_or (bodies after) i None) → get_or ms i opaque_measure ≡ opaque_measure
  none_known i lt is_open =
      let there = subst (λ (bs : List (Option StructBody)). IsOpen (get_or bs i None)) (bodies-given t first given) is_open in
      open_kept i there
      ∙ stands_at t ks kt is.kept.measured i (omega (arith, lt, many, is.kept.measured.as_many))
      ∙ measures_nothing (get_or (bodies t) i None) (open_before i there)

  pub kept_given : IsKept after ms (type_measures ms t.types)
  kept_given =
      let same = types-given t first given in
      subst (λ (ts : List IrType). IsKept after ms (type_measures ms ts)) same
      (kept_at_rest after (good-given t first given is.kept.measured.good known) ms (many ∙ sym (many-given t first given))
      ((λ j. struct_measures (type_measures ms (same j)) ms (bodies-given t first given j)) ∙ rest)
      none_known
      (subst (All (λ ty. type_length ty ≤ 2 ^ 40)) (sym same) is.kept.lengths)
      (subst (λ (ts : List IrType). All IsSmall (type_measures ms ts ++ ms)) (sym same) small))

  pub table_given : IsTable after ms (type_measures ms t.types) flags
  table_given = record {
    kept = kept_given;
    as_many_flags = is.as_many_flags ∙ sym (many-given t first given);
    flagged = subst (All (IsFlagged flags)) (sym (types-given t first given)) is.flagged;
  }

  pub within_given : StaysWithin t first given
  within_given = stays_within t first given is.kept.measured.good known fit none (within_kept after ms (type_measures ms t.types) kept_given)

-- The bodies of structs, where those from one on are given: what stands where.
use Rattle.std.proofs.Common.{◌≡◌, ◌≢◌, ℕ, suc, ◌+◌, ◌-◌, ◌≤◌, ◌<◌, List, [], ◌∷◌, Option, Some, None, ◌⊎◌, inl, inr, length, get_or, set, take, ap, sym, refl, ◌∙◌, arith}
use Rattle.std.proofs.lemmas.Bool.{cases_lt}
use Rattle.std.proofs.lemmas.List.{length-set, get_or-set_same, get_or-set_other, take_all}
use Rattle.type_table.specs.declared.ir_type.StructBody.{StructBody}
use Rattle.type_table.specs.declared.ir_type.StructBody.TheVariants.{Opaque, Plain, Packed}
use Rattle.type_table.specs.declared.measure.Measure.{Measure}
use Rattle.type_table.specs.Measures.{opaque_measure, body_measure, struct_measures}
use Rattle.type_table.specs.Batch.{IsOpen, set_from}
use Rattle.type_table.proofs.PassLists.{get_or-struct_measures}

pub length-set_from : (all : List (Option StructBody)) (first : ℕ) (given : List StructBody) → length (set_from all first given) ≡ length all
length-set_from all first [] = refl
length-set_from all first (body ∷ given) = length-set_from (set all first (Some body)) (suc first) given ∙ length-set all first (Some body)

-- in front of them and behind them stands what stood there
pub set_from-other : (all : List (Option StructBody)) (first : ℕ) (given : List StructBody) (k : ℕ) (d : Option StructBody) → (k < first) ⊎ (first + length given ≤ k)
    → get_or (set_from all first given) k d ≡ get_or all k d
set_from-other all first [] k d out = refl
set_from-other all first (body ∷ given) k d out =
    set_from-other (set all first (Some body)) (suc first) given k d (further out) ∙ get_or-set_other all first k (Some body) d (apart out)
  where
    further : (k < first) ⊎ (first + length (body ∷ given) ≤ k) → (k < suc first) ⊎ (suc first + length given ≤ k)
    further (inl lt) = inl (omega arith)
    further (inr le) = inr (omega arith)

    apart : (k < first) ⊎ (first + length (body ∷ given) ≤ k) → k ≢ first
    apart (inl lt) e = omega (arith, e)
    apart (inr le) e = omega (arith, e)

-- and from the first on stand they
pub set_from-here : (all : List (Option StructBody)) (first : ℕ) (given : List StructBody) (k : ℕ) (d : Option StructBody) (b : StructBody) → first ≤ k → k < first + length given → k < length all
    → get_or (set_from all first given) k d ≡ Some (get_or given (k - first) b)
set_from-here all first [] k d b le lt within = absurd (omega arith)
set_from-here all first (body ∷ given) k d b le lt within =
    by (set_from-here (set all first (Some body)) (suc first) given k d b) (cases_lt first k)
  where
    by : (suc first ≤ k → k < suc first + length given → k < length (set all first (Some body)) → get_or (set_from all first (body ∷ given)) k d ≡ Some (get_or given (k - suc first) b))
        → (first < k) ⊎ (k ≤ first) → get_or (set_from all first (body ∷ given)) k d ≡ Some (get_or (body ∷ given) (k - first) b)
    by rest (inl later) =
        let next : k - first ≡ suc (k - suc first) = omega arith in
        rest (omega arith) (omega (arith, lt)) (omega (arith, length-set all first (Some body), within))
        ∙ ap (λ i. Some (get_or (body ∷ given) i b)) (sym next)
    by rest (inr here) =
        let same : k ≡ first = omega (arith, le, here) in
        let start : k - first ≡ 0 = omega arith in
        set_from-other (set all first (Some body)) (suc first) given k d (inl (omega arith))
        ∙ ap (λ i. get_or (set all first (Some body)) i d) same
        ∙ get_or-set_same all first (Some body) d (omega (arith, within, same))
        ∙ ap (λ i. Some (get_or (body ∷ given) i b)) (sym start)

-- a pass keeps the measure of a struct without fields
open_kept : (types : List Measure) (had : Measure) (b : Option StructBody) → IsOpen b → body_measure types had b ≡ had
open_kept types had None is = refl
open_kept types had (Some Opaque) is = refl
open_kept types had (Some (Plain parts)) is = absurd is
open_kept types had (Some (Packed parts)) is = absurd is

pub open_pass : (types hads : List Measure) (bodies : List (Option StructBody)) (k : ℕ) → length hads ≡ length bodies → IsOpen (get_or bodies k None)
    → get_or (struct_measures types hads bodies) k opaque_measure ≡ get_or hads k opaque_measure
open_pass types hads bodies k many is =
    get_or-struct_measures types hads bodies k many ∙ open_kept types (get_or hads k opaque_measure) (get_or bodies k None) is

-- all of them
pub all_measured : (types hads : List Measure) (bodies : List (Option StructBody)) (n : ℕ) → length hads ≤ n → length bodies ≤ n
    → struct_measures types (take n hads) (take n bodies) ≡ struct_measures types hads bodies
all_measured types hads bodies n many all = λ j. struct_measures types (take_all n hads many j) (take_all n bodies all j)

-- Names of structs that are good, and the first that is not.
use Rattle.std.proofs.Common.{◌≡◌, ◌≢◌, ◌⊎◌, ◌≤◌, ◌<◌, ℕ, suc, true, false, not, List, [], ◌∷◌, ◌++◌, Option, Some, None, length, refl, sym, ap, subst, ◌∙◌, arith, inl, inr}
use Rattle.std.specs.Prelude.{nat_eq, bytes_eq}
use Rattle.std.specs.List.{list_all, list_any}
use Rattle.std.proofs.lemmas.Bool.{and_parts, and_from, both_ways, not-true, not_from_false, or_from, or_parts, false_from_ne_true, eq-eqb, ne_eqb, cases_lt}
use Rattle.std.proofs.lemmas.List.{append_assoc}
use Rattle.std.proofs.lemmas.Slice.Eq.{bytes_eq-Decides}
use Rattle.module_arena.specs.Module.{Bytes}
use Rattle.type_read.proofs.Tests.{all_both, other_way, not_later}
use Rattle.record_table.specs.TypeRecords.{are_distinct}
use Rattle.type_read.specs.Fields.{is_good}
use Rattle.type_read.specs.Listed.{FindsBad, IsBad, IsFirstBad, IsReached, are_good, is_first}

-- a text that is no good name is none of good names
pub bad_is_new : (x : Bytes) (ns : List Bytes) → is_good x ≡ false → list_all is_good ns ≡ true → list_any (bytes_eq x) ns ≡ false
bad_is_new x [] bad good = refl
bad_is_new x (n ∷ ns) bad good =
    let p = and_parts (is_good n) (list_all is_good ns) good in
    let differs : bytes_eq x n ≡ false = false_from_ne_true (bytes_eq x n) (λ e. both_ways (is_good x) bad (ap is_good ((bytes_eq-Decides x n).0 e) ∙ p.0)) in
    or_from (bytes_eq x n) (list_any (bytes_eq x) ns) differs (bad_is_new x ns bad p.1)

-- of distinct names none is among those before it
pub distinct_new : (front back : List Bytes) (x : Bytes) → are_distinct (front ++ x ∷ back) ≡ true → list_any (bytes_eq x) front ≡ false
distinct_new [] back x h = refl
distinct_new (n ∷ front) back x h =
    let p = and_parts (not (list_any (bytes_eq n) (front ++ x ∷ back))) (are_distinct (front ++ x ∷ back)) h in
    or_from (bytes_eq x n) (list_any (bytes_eq x) front) (other_way n x (not_later n x front back (not-true (list_any (bytes_eq n) (front ++ x ∷ back)) p.0))) (distinct_new front back x p.1)

-- one more that is new
none_of : (n x : Bytes) (ns : List Bytes) → list_any (bytes_eq n) ns ≡ false → bytes_eq n x ≡ false → list_any (bytes_eq n) (ns ++ x ∷ []) ≡ false
none_of n x [] h k = or_from (bytes_eq n x) false k refl
none_of n x (m ∷ ns) h k = let p = or_parts (bytes_eq n m) (list_any (bytes_eq n) ns) h in or_from (bytes_eq n m) (list_any (bytes_eq n) (ns ++ x ∷ [])) p.0 (none_of n x ns p.1 k)

pub distinct_push : (ns : List Bytes) (x : Bytes) → are_distinct ns ≡ true → list_any (bytes_eq x) ns ≡ false → are_distinct (ns ++ x ∷ []) ≡ true
distinct_push [] x h k = refl
distinct_push (n ∷ ns) x h k =
    let p = and_parts (not (list_any (bytes_eq n) ns)) (are_distinct ns) h in
    let q = or_parts (bytes_eq x n) (list_any (bytes_eq x) ns) k in
    and_from (not (list_any (bytes_eq n) (ns ++ x ∷ []))) (are_distinct (ns ++ x ∷ []))
    (not_from_false (list_any (bytes_eq n) (ns ++ x ∷ [])) (none_of n x ns (not-true (list_any (bytes_eq n) ns) p.0) (other_way x n q.0)))
    (distinct_push ns x p.1 q.1)

pub good_push : (ns : List Bytes) (x : Bytes) → are_good ns ≡ true → is_good x ≡ true → list_any (bytes_eq x) ns ≡ false → are_good (ns ++ x ∷ []) ≡ true
good_push ns x h good new =
    let p = and_parts (list_all is_good ns) (are_distinct ns) h in
    and_from (list_all is_good (ns ++ x ∷ [])) (are_distinct (ns ++ x ∷ []))
    (all_both is_good ns (x ∷ []) p.0 (and_from (is_good x) true good refl))
    (distinct_push ns x p.1 new)

-- ---- fronts of one list

pub same_front : {A : Type 0} (xs ys : List A) (x y : A) (us vs : List A) → xs ++ x ∷ us ≡ ys ++ y ∷ vs → length xs ≡ length ys → (xs ≡ ys) × (x ≡ y)
same_front [] [] x y us vs e n = (refl, cc)
same_front [] (b ∷ ys) x y us vs e n = absurd (omega arith)
same_front (a ∷ xs) [] x y us vs e n = absurd (omega arith)
same_front (a ∷ xs) (b ∷ ys) x y us vs e n =
    let tails : xs ++ x ∷ us ≡ ys ++ y ∷ vs = cc in
    let heads : a ≡ b = cc in
    let rest = same_front xs ys x y us vs tails (omega arith) in
    ((λ j. heads j ∷ rest.0 j), rest.1)

pub longer_front : {A : Type 0} (xs ys : List A) (x y : A) (us vs : List A) → xs ++ x ∷ us ≡ ys ++ y ∷ vs → length xs < length ys → (more : List A) × (ys ≡ xs ++ x ∷ more)
longer_front [] [] x y us vs e n = absurd (omega arith)
longer_front [] (b ∷ ys) x y us vs e n = let same : b ≡ x = cc in (ys, (λ j. same j ∷ ys))
longer_front (a ∷ xs) [] x y us vs e n = absurd (omega arith)
longer_front (a ∷ xs) (b ∷ ys) x y us vs e n =
    let tails : xs ++ x ∷ us ≡ ys ++ y ∷ vs = cc in
    let heads : b ≡ a = cc in
    let rest = longer_front xs ys x y us vs tails (omega arith) in
    (rest.0, (λ j. heads j ∷ rest.1 j))

-- The first bad name is told exactly where a good name is there already: names before it are good.
pub first_tells : (found : Option ℕ) (all front later : List Bytes) (x : Bytes) → FindsBad found all → all ≡ front ++ x ∷ later → IsReached found (length front) → is_good x ≡ true
    → is_first found (length front) ≡ list_any (bytes_eq x) front
first_tells None all front later x finds is reached good =
    let distinct = and_parts (list_all is_good all) (are_distinct all) finds in
    sym (distinct_new front later x (subst (λ (ns : List Bytes). are_distinct ns ≡ true) is distinct.1))
first_tells (Some place) all front later x finds is reached good = by_order (cases_lt (length front) (length finds.before))
  where
    joined : front ++ x ∷ later ≡ finds.before ++ finds.name ∷ finds.behind
    joined = sym is ∙ finds.all_is

    there : (length front ≡ length finds.before) → nat_eq (length front) place ≡ list_any (bytes_eq x) front
    there same =
        let split = same_front front finds.before x finds.name later finds.behind joined same in
        eq-eqb (length front) place (same ∙ sym finds.place_is) ∙ sym (by_cause split finds.bad)
      where
        by_cause : (front ≡ finds.before) × (x ≡ finds.name) → IsBad finds.before finds.name → list_any (bytes_eq x) front ≡ true
        by_cause split (inl bad) = absurd (both_ways (is_good x) (ap is_good split.1 ∙ bad) good)
        by_cause split (inr old) = (λ j. list_any (bytes_eq (split.1 j)) (split.0 j)) ∙ old

    by_order : (length front < length finds.before) ⊎ (length finds.before ≤ length front) → nat_eq (length front) place ≡ list_any (bytes_eq x) front
    by_order (inl less) =
        let more = longer_front front finds.before x finds.name later finds.behind joined less in
        let distinct = and_parts (list_all is_good finds.before) (are_distinct finds.before) finds.good in
        let is_place = finds.place_is in
        ne_eqb (length front) place (λ e. omega (arith, e, is_place, less))
        ∙ sym (distinct_new front more.0 x (subst (λ (ns : List Bytes). are_distinct ns ≡ true) more.1 distinct.1))
    by_order (inr le) = let is_place = finds.place_is in there (omega (arith, reached, le, is_place))

-- one that is not the first bad name: the next is reached
pub reaches_next : (found : Option ℕ) (n : ℕ) → IsReached found n → is_first found n ≡ false → IsReached found (suc n)
reaches_next None n reached h = tt
reaches_next (Some place) n reached h = let differs : n ≢ place = λ e. both_ways (nat_eq n place) h (eq-eqb n place e) in omega (arith, differs, reached)

-- ---- names as they are gathered

-- behind a bad name it stays the first
pub still_bad : (place : ℕ) (all : List Bytes) (x : Bytes) → IsFirstBad place all → IsFirstBad place (all ++ x ∷ [])
still_bad place all x h = record {
  before = h.before;
  name = h.name;
  behind = h.behind ++ x ∷ [];
  all_is = ap (λ (l : List Bytes). l ++ x ∷ []) h.all_is ∙ append_assoc h.before (h.name ∷ h.behind) (x ∷ []);
  place_is = h.place_is;
  good = h.good;
  bad = h.bad;
}

pub first_bad_here : (all : List Bytes) (x : Bytes) → are_good all ≡ true → IsBad all x → IsFirstBad (length all) (all ++ x ∷ [])
first_bad_here all x good bad = record { before = all; name = x; behind = []; all_is = refl; place_is = refl; good = good; bad = bad }

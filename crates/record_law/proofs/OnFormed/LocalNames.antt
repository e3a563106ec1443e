-- The names of locals, one behind another: names are new, and numbers stand in order.
use Rattle.std.proofs.Common.{◌≡◌, ◌<◌, ◌+◌, ℕ, zero, suc, true, false, not, List, [], ◌∷◌, ◌++◌, length, map, zip, bytes_eq, refl, sym, ap, subst, ◌∙◌, arith, append_assoc, append-nil}
use Rattle.std.specs.List.{list_all, list_any, AllByRecursion}
use Rattle.std.proofs.lemmas.Bool.{and_parts, eq-eqb, false_from_ne_true, false≢true, ne_eqb, or_left, or_right, not-true}
use Rattle.std.proofs.lemmas.Slice.Eq.{bytes_eq-Decides}
use Rattle.ir_tables.specs.Table.{is_distinct}
use Rattle.type_table.specs.Tree.{Tree}
use Rattle.module_arena.specs.Module.{Bytes, LocalName, Named, Numbered, Parameter}
use Rattle.module_arena.specs.Names.{is_local_name, is_number, is_numbered_from}
use Rattle.module_arena.specs.Same.{same_local}
use Rattle.record_table.specs.Fields.{after}
use Rattle.record_table.specs.Bodies.{after_all, are_new, numbers_from, with_names}
use Rattle.record_table.specs.Records.{parameters_of}
use Rattle.record_law.proofs.OnFormed.Tests.{all_pass, both_of, distinct_with, each_too}
use Rattle.record_law.proofs.OnFormed.Texts.{IsCalled}

-- the number is below this one
abbrev pub IsBelow : ℕ → LocalName → Type 0
IsBelow own (Named bytes) = Unit {0}
IsBelow own (Numbered n) = n < own

-- the name is one of these
abbrev pub IsTaken : List Bytes → LocalName → Type 0
IsTaken taken (Named bytes) = list_any (bytes_eq bytes) taken ≡ true
IsTaken taken (Numbered n) = Unit {0}

-- names as they may stand one behind another, where these are taken by them and the next without a name has that number
pub record AreNames (own : ℕ) (taken : List Bytes) (names : List LocalName) : Type 0 where
  pub good : AllByRecursion (λ n. is_local_name n ≡ true) names
  pub numbered : (behind : List LocalName) → is_numbered_from 0 (names ++ behind) ≡ is_numbered_from own behind
  pub distinct : is_distinct same_local names ≡ true
  pub below : AllByRecursion (IsBelow own) names
  pub taken_all : AllByRecursion (IsTaken taken) names

-- names of which each is called so behind those before it
abbrev pub AreCalled : ℕ → List LocalName → Type 0
AreCalled own [] = Unit {0}
AreCalled own (x ∷ xs) = IsCalled own x × AreCalled (after own x) xs

pub no_names : (own : ℕ) → own ≡ 0 → AreNames own [] []
no_names own none = record { good = tt; numbered = λ behind. ap (λ n. is_numbered_from n behind) (sym none); distinct = refl; below = tt; taken_all = tt }

-- ---- one more

-- a name that is not taken is none of those that have taken theirs
other_name : (taken : List Bytes) (bytes : Bytes) → list_any (bytes_eq bytes) taken ≡ false → (n : LocalName) → IsTaken taken n → same_local n (Named bytes) ≡ false
other_name taken bytes free (Numbered n) is = refl
other_name taken bytes free (Named other) is = false_from_ne_true (bytes_eq other bytes) (λ same.
    false≢true (sym free ∙ (ap (λ (b : Bytes). list_any (bytes_eq b) taken) (sym ((bytes_eq-Decides other bytes).0 same)) ∙ is)))

-- a number that is not reached is none of those below it
other_number : (own : ℕ) (n : LocalName) → IsBelow own n → same_local n (Numbered own) ≡ false
other_number own (Named bytes) is = refl
other_number own (Numbered n) is = ne_eqb n own (omega (arith, is))

wider : (own : ℕ) (n : LocalName) → IsBelow own n → IsBelow (suc own) n
wider own (Named bytes) is = tt
wider own (Numbered n) is = omega (arith, is)

still_taken : (taken : List Bytes) (bytes : Bytes) (n : LocalName) → IsTaken taken n → IsTaken (bytes ∷ taken) n
still_taken taken bytes (Named other) is = or_right (bytes_eq other bytes) (list_any (bytes_eq other) taken) is
still_taken taken bytes (Numbered n) is = tt

distinct_last : (names : List LocalName) (x : LocalName) → is_distinct same_local names ≡ true → AllByRecursion (λ n. same_local n x ≡ false) names → is_distinct same_local (names ++ x ∷ []) ≡ true
distinct_last names x h others = distinct_with same_local names [] x (subst (λ (ns : List LocalName). is_distinct same_local ns ≡ true) (sym (append-nil names)) h) others refl

named_next : (own : ℕ) (taken : List Bytes) (names : List LocalName) (bytes : Bytes) → AreNames own taken names → IsCalled own (Named bytes) → list_any (bytes_eq bytes) taken ≡ false
    → AreNames own (bytes ∷ taken) (names ++ Named bytes ∷ [])
named_next own taken names bytes h called free = record {
  good = both_of (λ n. is_local_name n ≡ true) names (Named bytes ∷ []) h.good (called, tt);
  numbered = λ behind. ap (λ (ns : List LocalName). is_numbered_from 0 ns) (append_assoc names (Named bytes ∷ []) behind) ∙ h.numbered (Named bytes ∷ behind);
  distinct = distinct_last names (Named bytes) h.distinct (each_too (IsTaken taken) (λ n. same_local n (Named bytes) ≡ false) names (other_name taken bytes free) h.taken_all);
  below = both_of (IsBelow own) names (Named bytes ∷ []) h.below (tt, tt);
  taken_all = both_of (IsTaken (bytes ∷ taken)) names (Named bytes ∷ []) (each_too (IsTaken taken) (IsTaken (bytes ∷ taken)) names (still_taken taken bytes) h.taken_all)
      (or_left (bytes_eq bytes bytes) (list_any (bytes_eq bytes) taken) ((bytes_eq-Decides bytes bytes).1 refl), tt);
}

number_first : (own : ℕ) (behind : List LocalName) → is_numbered_from own (Numbered own ∷ behind) ≡ is_numbered_from (suc own) behind
number_first own behind = let e : own + 1 ≡ suc own = omega arith in rw (eq-eqb own own refl) (ap (λ n. is_numbered_from n behind) e)

numbered_next : (own : ℕ) (taken : List Bytes) (names : List LocalName) → AreNames own taken names → AreNames (suc own) taken (names ++ Numbered own ∷ [])
numbered_next own taken names h = record {
  good = both_of (λ n. is_local_name n ≡ true) names (Numbered own ∷ []) h.good (refl, tt);
  numbered = λ behind. ap (λ (ns : List LocalName). is_numbered_from 0 ns) (append_assoc names (Numbered own ∷ []) behind) ∙ (h.numbered (Numbered own ∷ behind) ∙ number_first own behind);
  distinct = distinct_last names (Numbered own) h.distinct (each_too (IsBelow own) (λ n. same_local n (Numbered own) ≡ false) names (other_number own) h.below);
  below = both_of (IsBelow (suc own)) names (Numbered own ∷ []) (each_too (IsBelow own) (IsBelow (suc own)) names (wider own) h.below) (omega arith, tt);
  taken_all = both_of (IsTaken taken) names (Numbered own ∷ []) h.taken_all (tt, tt);
}

-- more of them
pub more_names : (own : ℕ) (taken : List Bytes) (names xs : List LocalName) → AreNames own taken names → AreCalled own xs → are_new taken xs ≡ true → AreNames (after_all own xs) (with_names taken xs) (names ++ xs)
more_names own taken names [] h called new = subst (λ (ns : List LocalName). AreNames own taken ns) (sym (append-nil names)) h
more_names own taken names (Named bytes ∷ xs) h called new =
    let p = and_parts (not (list_any (bytes_eq bytes) taken)) (are_new (bytes ∷ taken) xs) new in
    subst (λ (ns : List LocalName). AreNames (after_all own xs) (with_names (bytes ∷ taken) xs) ns) (append_assoc names (Named bytes ∷ []) xs)
    (more_names own (bytes ∷ taken) (names ++ Named bytes ∷ []) xs (named_next own taken names bytes h called.0 (not-true (list_any (bytes_eq bytes) taken) p.0)) called.1 p.1)
more_names own taken names (Numbered n ∷ xs) h called new =
    let here : AreNames (suc n) taken (names ++ Numbered n ∷ []) = numbered_next n taken names (subst (λ k. AreNames k taken names) (sym called.0) h) in
    subst (λ (ns : List LocalName). AreNames (after_all (suc own) xs) (with_names taken xs) ns) (append_assoc names (Numbered n ∷ []) xs)
    (more_names (suc own) taken (names ++ Numbered n ∷ []) xs (subst (λ k. AreNames k taken (names ++ Numbered n ∷ [])) (ap suc called.0) here) called.1 new)

-- ---- numbers alone

pub numbers_called : (own count : ℕ) → AreCalled own (numbers_from own count)
unfolding numbers_from
numbers_called own zero = tt
numbers_called own (suc count) = (refl, numbers_called (suc own) count)

pub numbers_new : (taken : List Bytes) (own count : ℕ) → are_new taken (numbers_from own count) ≡ true
unfolding numbers_from
numbers_new taken own zero = refl
numbers_new taken own (suc count) = numbers_new taken (suc own) count

pub numbers_alone : (own count : ℕ) → list_all is_number (numbers_from own count) ≡ true
unfolding numbers_from
numbers_alone own zero = refl
numbers_alone own (suc count) = numbers_alone (suc own) count

-- all names together are good ones
pub names_tested : (own : ℕ) (taken : List Bytes) (names : List LocalName) → AreNames own taken names
    → (list_all is_local_name names ≡ true) × ((is_distinct same_local names ≡ true) × (is_numbered_from 0 names ≡ true))
names_tested own taken names h = (all_pass is_local_name names h.good, (h.distinct, ap (λ (ns : List LocalName). is_numbered_from 0 ns) (sym (append-nil names)) ∙ h.numbered []))

-- the names of parameters of so many types
pub names_zipped : (ts : List Tree) (ns : List LocalName) → length ts ≡ length ns → map (λ (p : Parameter). p.name) (parameters_of (zip ts ns)) ≡ ns
names_zipped [] [] e = refl
names_zipped [] (n ∷ ns) e = absurd (omega arith)
names_zipped (t ∷ ts) [] e = absurd (omega arith)
names_zipped (t ∷ ts) (n ∷ ns) e = ap (λ (xs : List LocalName). n ∷ xs) (names_zipped ts ns (omega arith))

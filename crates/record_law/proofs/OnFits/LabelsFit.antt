-- The names of a function: they are held or numbered in their order, and each is new.
use Rattle.std.proofs.Common.{◌≡◌, ℕ, suc, ◌+◌, true, false, not, List, [], ◌∷◌, ◌++◌, length, map, filter_map, Option, Some, None, refl, sym, ap, ◌∙◌, subst, arith}
use Rattle.std.specs.Prelude.{bytes_eq, zip, ◌==◌, ⊤}
use Rattle.std.specs.List.{list_all, list_any, AllByRecursion}
use Rattle.std.specs.Option.{option_to_list}
use Rattle.std.proofs.lemmas.Bool.{and_parts, and_from, or_parts, or_from, not_from_false, eqb-true, false≢true, not-true}
use Rattle.ir_tables.specs.Table.{is_distinct}
use Rattle.module_arena.specs.Module.{Bytes, LocalName, Named, Numbered, Parameter}
use Rattle.module_arena.specs.Names.{is_name, is_local_name, is_numbered_from, is_number}
use Rattle.module_arena.specs.Same.{same_local}
use Rattle.record_table.specs.Fields.{Texts, after, name_in}
use Rattle.record_table.specs.Bodies.{after_all, with_names, are_new, results, numbers_from}
use Rattle.record_table.specs.Records.{parameters_of}
use Rattle.record_law.specs.Bodies.FittingBodies.{AreLabels}
use Rattle.record_law.proofs.OnTypes.Tests.{other_way}
use Rattle.record_law.proofs.OnTypes.TypesFit.{name_again}

-- ---- each name is new

-- a name that is not there
abbrev IsFree : List Bytes → LocalName → Type 0
IsFree taken (Named name) = list_any (bytes_eq name) taken ≡ false
IsFree taken (Numbered n) = ⊤

still_free : (name : Bytes) (taken : List Bytes) (names : List LocalName) → AllByRecursion (IsFree taken) names → list_any (same_local (Named name)) names ≡ false → AllByRecursion (IsFree (name ∷ taken)) names
still_free name taken [] free apart = tt
still_free name taken (Numbered n ∷ names) free apart = (tt, still_free name taken names free.1 (or_parts false (list_any (same_local (Named name)) names) apart).1)
still_free name taken (Named other ∷ names) free apart =
    let q = or_parts (bytes_eq name other) (list_any (same_local (Named name)) names) apart in
    (or_from (bytes_eq other name) (list_any (bytes_eq other) taken) (other_way name other q.0) free.0, still_free name taken names free.1 q.1)

all_new : (names : List LocalName) (taken : List Bytes) → AllByRecursion (IsFree taken) names → is_distinct same_local names ≡ true → are_new taken names ≡ true
all_new [] taken free apart = refl
all_new (Numbered n ∷ names) taken free apart = all_new names taken free.1 (and_parts (not (list_any (same_local (Numbered n)) names)) (is_distinct same_local names) apart).1
all_new (Named name ∷ names) taken free apart =
    let p = and_parts (not (list_any (same_local (Named name)) names)) (is_distinct same_local names) apart in
    and_from (not (list_any (bytes_eq name) taken)) (are_new (name ∷ taken) names) (not_from_false (list_any (bytes_eq name) taken) free.0)
    (all_new names (name ∷ taken) (still_free name taken names free.1 (not-true (list_any (same_local (Named name)) names) p.0)) p.1)

none_taken : (names : List LocalName) → AllByRecursion (IsFree []) names
none_taken [] = tt
none_taken (Named name ∷ names) = (refl, none_taken names)
none_taken (Numbered n ∷ names) = (tt, none_taken names)

new_front : (taken : List Bytes) (xs ys : List LocalName) → are_new taken (xs ++ ys) ≡ true → are_new taken xs ≡ true
new_front taken [] ys h = refl
new_front taken (Numbered n ∷ xs) ys h = new_front taken xs ys h
new_front taken (Named name ∷ xs) ys h =
    let p = and_parts (not (list_any (bytes_eq name) taken)) (are_new (name ∷ taken) (xs ++ ys)) h in
    and_from (not (list_any (bytes_eq name) taken)) (are_new (name ∷ taken) xs) p.0 (new_front (name ∷ taken) xs ys p.1)

new_rest : (taken : List Bytes) (xs ys : List LocalName) → are_new taken (xs ++ ys) ≡ true → are_new (with_names taken xs) ys ≡ true
new_rest taken [] ys h = h
new_rest taken (Numbered n ∷ xs) ys h = new_rest taken xs ys h
new_rest taken (Named name ∷ xs) ys h = new_rest (name ∷ taken) xs ys (and_parts (not (list_any (bytes_eq name) taken)) (are_new (name ∷ taken) (xs ++ ys)) h).1

-- ---- each is held, or has its number
module _ (texts : Texts) where
  -- a name that is held
  abbrev pub IsHeld : LocalName → Type 0
  IsHeld (Named name) = texts.holds name ≡ true
  IsHeld (Numbered n) = ⊤

  pub held_names : (names : List LocalName) → AllByRecursion (λ text. texts.holds text ≡ true) (filter_map name_in names) → AllByRecursion IsHeld names
  held_names [] held = tt
  held_names (Named name ∷ names) held = (held.0, held_names names held.1)
  held_names (Numbered n ∷ names) held = (tt, held_names names held)

  are_labels : (own : ℕ) (names : List LocalName) → AllByRecursion IsHeld names → list_all is_local_name names ≡ true → is_numbered_from own names ≡ true → AreLabels texts own names
  are_labels own [] held good numbered = tt
  are_labels own (Named name ∷ names) held good numbered =
      let p = and_parts (is_name name) (list_all is_local_name names) good in
      ((held.0, name_again name p.0), are_labels own names held.1 p.1 numbered)
  are_labels own (Numbered n ∷ names) held good numbered =
      let q = and_parts (n == own) (is_numbered_from (own + 1) names) numbered in
      let next : own + 1 ≡ suc own = omega arith in
      (eqb-true n own q.0, are_labels (suc own) names held.1 good (subst (λ (k : ℕ). is_numbered_from k names ≡ true) next q.1))

  labels_front : (own : ℕ) (xs ys : List LocalName) → AreLabels texts own (xs ++ ys) → AreLabels texts own xs
  labels_front own [] ys h = tt
  labels_front own (x ∷ xs) ys h = (h.0, labels_front (after own x) xs ys h.1)

  labels_rest : (own : ℕ) (xs ys : List LocalName) → AreLabels texts own (xs ++ ys) → AreLabels texts (after_all own xs) ys
  labels_rest own [] ys h = h
  labels_rest own (x ∷ xs) ys h = labels_rest (after own x) xs ys h.1

  -- names that come, where the next without a name has that number and these are there
  pub record AreAhead (own : ℕ) (taken : List Bytes) (names : List LocalName) : Type 0 where
    pub labels : AreLabels texts own names
    pub new : are_new taken names ≡ true

  pub all_ahead : (names : List LocalName) → AllByRecursion IsHeld names → list_all is_local_name names ≡ true → is_numbered_from 0 names ≡ true → is_distinct same_local names ≡ true → AreAhead 0 [] names
  all_ahead names held good numbered apart = record { labels = are_labels 0 names held good numbered; new = all_new names [] (none_taken names) apart }

  pub front_ahead : (own : ℕ) (taken : List Bytes) (xs ys : List LocalName) → AreAhead own taken (xs ++ ys) → AreAhead own taken xs
  front_ahead own taken xs ys h = record { labels = labels_front own xs ys h.labels; new = new_front taken xs ys h.new }

  pub rest_ahead : (own : ℕ) (taken : List Bytes) (xs ys : List LocalName) → AreAhead own taken (xs ++ ys) → AreAhead (after_all own xs) (with_names taken xs) ys
  rest_ahead own taken xs ys h = record { labels = labels_rest own xs ys h.labels; new = new_rest taken xs ys h.new }

  pub result_front : (r : Option LocalName) (own : ℕ) (taken : List Bytes) (rest : List LocalName) → AreAhead own taken (option_to_list r ++ rest) → AreLabels texts own (option_to_list r) × (are_new taken (results r) ≡ true)
  result_front None own taken rest h = (tt, refl)
  result_front (Some name) own taken rest h = let front = front_ahead own taken (name ∷ []) rest h in (front.labels, front.new)

  pub result_rest : (r : Option LocalName) (own : ℕ) (taken : List Bytes) (rest : List LocalName) → AreAhead own taken (option_to_list r ++ rest) → AreAhead (after_all own (results r)) (with_names taken (results r)) rest
  result_rest None own taken rest h = h
  result_rest (Some name) own taken rest h = rest_ahead own taken (name ∷ []) rest h

-- ---- the parameters of a declaration

name_is : (own : ℕ) (name : LocalName) (names : List LocalName) → is_number name ≡ true → is_numbered_from own (name ∷ names) ≡ true → (name ≡ Numbered own) × (is_numbered_from (suc own) names ≡ true)
name_is own (Named name) names number numbered = absurd (false≢true number)
name_is own (Numbered n) names number numbered =
    let q = and_parts (n == own) (is_numbered_from (own + 1) names) numbered in
    let next : own + 1 ≡ suc own = omega arith in
    (ap Numbered (eqb-true n own q.0), subst (λ (k : ℕ). is_numbered_from k names ≡ true) next q.1)

pub numbered_again : (ps : List Parameter) (own : ℕ) → list_all is_number (map (λ p. p.name) ps) ≡ true → is_numbered_from own (map (λ p. p.name) ps) ≡ true
    → parameters_of (zip (map (λ p. p.ty) ps) (numbers_from own (length (map (λ p. p.ty) ps)))) ≡ ps
unfolding numbers_from
numbered_again [] own numbers numbered = refl
numbered_again (p ∷ ps) own numbers numbered =
    let q = and_parts (is_number p.name) (list_all is_number (map (λ (p : Parameter). p.name) ps)) numbers in
    let r = name_is own p.name (map (λ (p : Parameter). p.name) ps) q.0 numbered in
    let made : LocalName → List Parameter → List Parameter = λ name others. record { ty = p.ty; name = name } ∷ others in
    ap (λ name. made name (parameters_of (zip (map (λ p. p.ty) ps) (numbers_from (suc own) (length (map (λ p. p.ty) ps)))))) (sym r.0) ∙ ap (made p.name) (numbered_again ps (suc own) q.1 r.1)

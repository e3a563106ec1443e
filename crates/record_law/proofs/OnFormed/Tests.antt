-- Tests of lists, and names of which no two are the same.
use Rattle.std.proofs.Common.{◌≡◌, ◌<◌, ℕ, zero, suc, Bool, true, false, not, List, [], ◌∷◌, ◌++◌, length, get_or, take, drop, set, map, bytes_eq, refl, sym, ap, ◌∙◌, arith}
use Rattle.std.specs.List.{list_all, list_any, AllByRecursion}
use Rattle.std.proofs.lemmas.Bool.{and_parts, and_from, or_parts, or_from, false_from_ne_true, false≢true, not-true}
use Rattle.std.proofs.lemmas.Slice.Eq.{bytes_eq-Decides}
use Rattle.ir_tables.specs.Table.{is_distinct}
use Rattle.module_arena.specs.Module.{Bytes}

module _ {A : Type 0} (p : A → Bool) where
  -- a test that each passes
  pub all_pass : (xs : List A) → AllByRecursion (λ x. p x ≡ true) xs → list_all p xs ≡ true
  all_pass [] h = refl
  all_pass (x ∷ xs) h = and_from (p x) (list_all p xs) h.0 (all_pass xs h.1)

  pub each_passes : (xs : List A) → list_all p xs ≡ true → AllByRecursion (λ x. p x ≡ true) xs
  each_passes [] h = tt
  each_passes (x ∷ xs) h = let q = and_parts (p x) (list_all p xs) h in (q.0, each_passes xs q.1)

  pub take_pass : (n : ℕ) (xs : List A) → list_all p xs ≡ true → list_all p (take n xs) ≡ true
  take_pass zero xs h = refl
  take_pass (suc n) [] h = refl
  take_pass (suc n) (x ∷ xs) h = let q = and_parts (p x) (list_all p xs) h in and_from (p x) (list_all p (take n xs)) q.0 (take_pass n xs q.1)

  pub drop_pass : (n : ℕ) (xs : List A) → list_all p xs ≡ true → list_all p (drop n xs) ≡ true
  drop_pass zero xs h = h
  drop_pass (suc n) [] h = refl
  drop_pass (suc n) (x ∷ xs) h = drop_pass n xs (and_parts (p x) (list_all p xs) h).1

module _ {A : Type 0} (P Q : A → Type 0) where
  -- each is also so
  pub each_too : (xs : List A) → ((x : A) → P x → Q x) → AllByRecursion P xs → AllByRecursion Q xs
  each_too [] keeps h = tt
  each_too (x ∷ xs) keeps h = (keeps x h.0, each_too xs keeps h.1)

module _ {A : Type 0} (P : A → Type 0) where
  -- both parts of a list, and two lists as one
  pub front_of : (xs ys : List A) → AllByRecursion P (xs ++ ys) → AllByRecursion P xs
  front_of [] ys h = tt
  front_of (x ∷ xs) ys h = (h.0, front_of xs ys h.1)

  pub rest_of : (xs ys : List A) → AllByRecursion P (xs ++ ys) → AllByRecursion P ys
  rest_of [] ys h = h
  rest_of (x ∷ xs) ys h = rest_of xs ys h.1

  pub both_of : (xs ys : List A) → AllByRecursion P xs → AllByRecursion P ys → AllByRecursion P (xs ++ ys)
  both_of [] ys h k = k
  both_of (x ∷ xs) ys h k = (h.0, both_of xs ys h.1 k)

  pub each_set : (xs : List A) (i : ℕ) (y : A) → AllByRecursion P xs → P y → AllByRecursion P (set xs i y)
  each_set [] i y h k = tt
  each_set (x ∷ xs) zero y h k = (k, h.1)
  each_set (x ∷ xs) (suc i) y h k = (h.0, each_set xs i y h.1 k)

  -- the last one
  pub last_of : (xs : List A) (y : A) → AllByRecursion P (xs ++ y ∷ []) → P y
  last_of [] y h = h.0
  last_of (x ∷ xs) y h = last_of xs y h.1

  -- what holds of each place holds of each element
  pub each_place : (xs : List A) → ((k : ℕ) (d : A) → k < length xs → P (get_or xs k d)) → AllByRecursion P xs
  each_place [] h = tt
  each_place (x ∷ xs) h = (h 0 x (omega arith), each_place xs (λ k d lt. h (suc k) d (omega arith)))

  pub place_of_each : (xs : List A) → AllByRecursion P xs → (k : ℕ) (d : A) → k < length xs → P (get_or xs k d)
  place_of_each [] h k d lt = absurd (omega arith)
  place_of_each (x ∷ xs) h zero d lt = h.0
  place_of_each (x ∷ xs) h (suc k) d lt = place_of_each xs h.1 k d (omega arith)

-- of mapped things
pub each_map : {A B : Type 0} (P : B → Type 0) (f : A → B) (xs : List A) → AllByRecursion (λ x. P (f x)) xs → AllByRecursion P (map f xs)
each_map P f [] h = tt
each_map P f (x ∷ xs) h = (h.0, each_map P f xs h.1)

pub map_each : {A B : Type 0} (P : B → Type 0) (f : A → B) (xs : List A) → AllByRecursion P (map f xs) → AllByRecursion (λ x. P (f x)) xs
map_each P f [] h = tt
map_each P f (x ∷ xs) h = (h.0, map_each P f xs h.1)

-- ---- no two the same

pub other_way : (t s : Bytes) → bytes_eq t s ≡ false → bytes_eq s t ≡ false
other_way t s differs = false_from_ne_true (bytes_eq s t) (λ is. false≢true (sym differs ∙ (bytes_eq-Decides t s).1 (sym ((bytes_eq-Decides s t).0 is))))

module _ {A : Type 0} (same : A → A → Bool) where
  none_in : (v : A) (xs ys : List A) (z : A) → list_any (same v) (xs ++ ys) ≡ false → same v z ≡ false → list_any (same v) (xs ++ z ∷ ys) ≡ false
  none_in v [] ys z h k = or_from (same v z) (list_any (same v) ys) k h
  none_in v (x ∷ xs) ys z h k = let q = or_parts (same v x) (list_any (same v) (xs ++ ys)) h in or_from (same v x) (list_any (same v) (xs ++ z ∷ ys)) q.0 (none_in v xs ys z q.1 k)

  -- one more, between the others, that is none of them
  pub distinct_with : (xs ys : List A) (z : A) → is_distinct same (xs ++ ys) ≡ true → AllByRecursion (λ x. same x z ≡ false) xs → list_any (same z) ys ≡ false
      → is_distinct same (xs ++ z ∷ ys) ≡ true
  distinct_with [] ys z h before behind = and_from (not (list_any (same z) ys)) (is_distinct same ys) (ap not behind) h
  distinct_with (x ∷ xs) ys z h before behind =
      let q = and_parts (not (list_any (same x) (xs ++ ys))) (is_distinct same (xs ++ ys)) h in
      and_from (not (list_any (same x) (xs ++ z ∷ ys))) (is_distinct same (xs ++ z ∷ ys))
      (ap not (none_in x xs ys z (not-true (list_any (same x) (xs ++ ys)) q.0) before.0)) (distinct_with xs ys z q.1 before.1 behind)

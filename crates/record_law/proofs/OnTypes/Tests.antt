-- Tests of all or any of a list.
use Rattle.std.proofs.Common.{◌≡◌, Bool, true, false, not, List, [], ◌∷◌, ◌++◌, map, refl, sym, ◌∙◌}
use Rattle.std.specs.Prelude.{bytes_eq}
use Rattle.std.specs.List.{list_all, list_any, AllByRecursion}
use Rattle.std.proofs.lemmas.Bool.{and_parts, and_from, or_parts, or_from, false_from_ne_true, false≢true, not-true}
use Rattle.std.proofs.lemmas.Slice.Eq.{bytes_eq-Decides}
use Rattle.ir_tables.specs.Table.{is_distinct}
use Rattle.module_arena.specs.Module.{Bytes}

module _ {A : Type 0} (p : A → Bool) where
  -- both parts of a list pass, and two lists that pass do so as one
  pub all_front : (xs ys : List A) → list_all p (xs ++ ys) ≡ true → list_all p xs ≡ true
  all_front [] ys h = refl
  all_front (x ∷ xs) ys h = let k = and_parts (p x) (list_all p (xs ++ ys)) h in and_from (p x) (list_all p xs) k.0 (all_front xs ys k.1)

  pub all_rest : (xs ys : List A) → list_all p (xs ++ ys) ≡ true → list_all p ys ≡ true
  all_rest [] ys h = h
  all_rest (x ∷ xs) ys h = all_rest xs ys (and_parts (p x) (list_all p (xs ++ ys)) h).1

  pub all_both : (xs ys : List A) → list_all p xs ≡ true → list_all p ys ≡ true → list_all p (xs ++ ys) ≡ true
  all_both [] ys h k = k
  all_both (x ∷ xs) ys h k = let q = and_parts (p x) (list_all p xs) h in and_from (p x) (list_all p (xs ++ ys)) q.0 (all_both xs ys q.1 k)

  pub each_passes : (xs : List A) → list_all p xs ≡ true → AllByRecursion (λ x. p x ≡ true) xs
  each_passes [] h = tt
  each_passes (x ∷ xs) h = let q = and_parts (p x) (list_all p xs) h in (q.0, each_passes xs q.1)

pub all_mapped : {A B : Type 0} (p : B → Bool) (f : A → B) (xs : List A) → list_all (λ x. p (f x)) xs ≡ true → list_all p (map f xs) ≡ true
all_mapped p f [] h = refl
all_mapped p f (x ∷ xs) h = let q = and_parts (p (f x)) (list_all (λ x. p (f x)) xs) h in and_from (p (f x)) (list_all p (map f xs)) q.0 (all_mapped p f xs q.1)

module _ {A : Type 0} (P : A → Type 0) where
  -- the same of facts
  pub front_of : (xs ys : List A) → AllByRecursion P (xs ++ ys) → AllByRecursion P xs
  front_of [] ys h = tt
  front_of (x ∷ xs) ys h = (h.0, front_of xs ys h.1)

  pub rest_of : (xs ys : List A) → AllByRecursion P (xs ++ ys) → AllByRecursion P ys
  rest_of [] ys h = h
  rest_of (x ∷ xs) ys h = rest_of xs ys h.1

  pub both_of : (xs ys : List A) → AllByRecursion P xs → AllByRecursion P ys → AllByRecursion P (xs ++ ys)
  both_of [] ys h k = k
  both_of (x ∷ xs) ys h k = (h.0, both_of xs ys h.1 k)

-- ---- names of which no two are the same

pub other_way : (t s : Bytes) → bytes_eq t s ≡ false → bytes_eq s t ≡ false
other_way t s differs = false_from_ne_true (bytes_eq s t) (λ is. false≢true (sym differs ∙ (bytes_eq-Decides t s).1 (sym ((bytes_eq-Decides s t).0 is))))

not_later : (t s : Bytes) (front back : List Bytes) → list_any (bytes_eq t) (front ++ s ∷ back) ≡ false → bytes_eq t s ≡ false
not_later t s [] back h = (or_parts (bytes_eq t s) (list_any (bytes_eq t) back) h).0
not_later t s (u ∷ front) back h = not_later t s front back (or_parts (bytes_eq t u) (list_any (bytes_eq t) (front ++ s ∷ back)) h).1

-- a name is none of those in front of it
pub new_behind : (front back : List Bytes) (s : Bytes) → is_distinct bytes_eq (front ++ s ∷ back) ≡ true → list_any (bytes_eq s) front ≡ false
new_behind [] back s h = refl
new_behind (t ∷ front) back s h =
    let p = and_parts (not (list_any (bytes_eq t) (front ++ s ∷ back))) (is_distinct bytes_eq (front ++ s ∷ back)) h in
    or_from (bytes_eq s t) (list_any (bytes_eq s) front) (other_way t s (not_later t s front back (not-true (list_any (bytes_eq t) (front ++ s ∷ back)) p.0))) (new_behind front back s p.1)

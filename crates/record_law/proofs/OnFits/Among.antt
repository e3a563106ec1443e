-- Names among others, and names that are none of others.
use Rattle.std.proofs.Common.{◌≡◌, ◌⊎◌, Bool, true, false, ◌||◌, not, List, [], ◌∷◌, ◌++◌, map, flat_map, refl, ap, inl, inr}
use Rattle.std.specs.Prelude.{bytes_eq}
use Rattle.std.specs.List.{list_any, AllByRecursion}
use Rattle.std.proofs.lemmas.Bool.{and_parts, or_parts, or_cases, or_left, or_right, or_from, false≢true, not-true}
use Rattle.ir_tables.specs.Table.{is_distinct}
use Rattle.module_arena.specs.Module.{Bytes}
use Rattle.record_law.proofs.OnTypes.Tests.{front_of, rest_of}

module _ {A : Type 0} (p : A → Bool) where
  pub any_front : (xs ys : List A) → list_any p xs ≡ true → list_any p (xs ++ ys) ≡ true
  any_front [] ys h = absurd (false≢true h)
  any_front (x ∷ xs) ys h = elim (or_cases (p x) (list_any p xs) h) [
    | inl is ↦ or_left (p x) (list_any p (xs ++ ys)) is
    | inr later ↦ or_right (p x) (list_any p (xs ++ ys)) (any_front xs ys later)
  ]

  pub any_rest : (xs ys : List A) → list_any p ys ≡ true → list_any p (xs ++ ys) ≡ true
  any_rest [] ys h = h
  any_rest (x ∷ xs) ys h = or_right (p x) (list_any p (xs ++ ys)) (any_rest xs ys h)

  pub any_either : (xs ys : List A) → list_any p (xs ++ ys) ≡ true → (list_any p xs ≡ true) ⊎ (list_any p ys ≡ true)
  any_either [] ys h = inr h
  any_either (x ∷ xs) ys h = elim (or_cases (p x) (list_any p (xs ++ ys)) h) [
    | inl is ↦ inl (or_left (p x) (list_any p xs) is)
    | inr later ↦ elim (any_either xs ys later) [
      | inl front ↦ inl (or_right (p x) (list_any p xs) front)
      | inr rest ↦ inr rest
    ]
  ]

  pub none_of : (xs ys : List A) → list_any p (xs ++ ys) ≡ false → (list_any p xs ≡ false) × (list_any p ys ≡ false)
  none_of [] ys h = (refl, h)
  none_of (x ∷ xs) ys h =
      let q = or_parts (p x) (list_any p (xs ++ ys)) h in
      let r = none_of xs ys q.1 in
      (or_from (p x) (list_any p xs) q.0 r.0, r.1)

pub any_mapped : {A B : Type 0} (p : B → Bool) (f : A → B) (xs : List A) → list_any p (map f xs) ≡ list_any (λ x. p (f x)) xs
any_mapped p f [] = refl
any_mapped p f (x ∷ xs) = ap (λ b. p (f x) || b) (any_mapped p f xs)

-- a name is none of those behind it
pub none_behind : (front back : List Bytes) (s : Bytes) → is_distinct bytes_eq (front ++ s ∷ back) ≡ true → list_any (bytes_eq s) back ≡ false
none_behind [] back s h = not-true (list_any (bytes_eq s) back) (and_parts (not (list_any (bytes_eq s) back)) (is_distinct bytes_eq back) h).0
none_behind (t ∷ front) back s h = none_behind front back s (and_parts (not (list_any (bytes_eq t) (front ++ s ∷ back))) (is_distinct bytes_eq (front ++ s ∷ back)) h).1

-- what holds of all that is gathered holds of what is gathered of each
pub of_each : {A X : Type 0} (P : A → Type 0) (f : X → List A) (xs : List X) → AllByRecursion P (flat_map f xs) → AllByRecursion (λ x. AllByRecursion P (f x)) xs
of_each P f [] h = tt
of_each P f (x ∷ xs) h = (front_of P (f x) (flat_map f xs) h, of_each P f xs (rest_of P (f x) (flat_map f xs) h))

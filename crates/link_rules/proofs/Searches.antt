-- Searches in lists whose elements are written anew.
use Rattle.std.proofs.Common.{◌≡◌, ℕ, zero, suc, ◌+◌, Bool, true, false, not, cond, ◌||◌, List, [], ◌∷◌, ◌++◌, map, length, Some, None, refl, ap, ap₂, ◌∙◌, subst, option_map, nat_lt, find, position, flat_map}
use Rattle.std.specs.Prelude.{slice_get}
use Rattle.std.specs.List.{list_any, AllByRecursion, position_or_len}
use Rattle.std.specs.Map.{lookup}
use Rattle.std.proofs.lemmas.Option.{same_Some}
use Rattle.std.proofs.lemmas.List.Folds.{list_any-append}

pub at_all : {A : Type 0} (P : A → Type 0) (xs : List A) (k : ℕ) (x : A) → AllByRecursion P xs → slice_get xs k ≡ Some x → P x
at_all P [] k x a h = cc
at_all P (y ∷ xs) zero x a h = subst P (same_Some y x h) a.0
at_all P (y ∷ xs) (suc k) x a h = at_all P xs k x a.1 h

pub map_all : {A B : Type 0} (f g : A → B) (P : A → Type 0) (xs : List A) → ((x : A) → P x → f x ≡ g x) → AllByRecursion P xs → map f xs ≡ map g xs
map_all f g P [] h a = refl
map_all f g P (x ∷ xs) h a = ap₂ (λ y ys. y ∷ ys) (h x a.0) (map_all f g P xs h a.1)

module _ {A B : Type 0} (f : A → B) (p : B → Bool) (q : A → Bool) where
  -- a test of what is written anew is one of what it was
  abbrev Kept : List A → Type 0
  Kept xs = AllByRecursion (λ x. p (f x) ≡ q x) xs

  prefix_map : (xs : List A) → Kept xs → position_or_len p (map f xs) ≡ position_or_len q xs
  prefix_map [] a = refl
  prefix_map (x ∷ xs) a = λ i. cond (not (a.0 i)) (1 + prefix_map xs a.1 i) 0

  length_map : (xs : List A) → length (map f xs) ≡ length xs
  length_map [] = refl
  length_map (x ∷ xs) = ap suc (length_map xs)

  pub position_map : (xs : List A) → Kept xs → position p (map f xs) ≡ position q xs
  position_map xs a = λ i. cond (nat_lt (prefix_map xs a i) (length_map xs i)) (Some (prefix_map xs a i)) None

  -- what is found is found again, under the same name
  pub find_name : {C : Type 0} (new : B → C) (old : A → C) (xs : List A) → Kept xs → AllByRecursion (λ x. q x ≡ true → new (f x) ≡ old x) xs → option_map new (find p (map f xs)) ≡ option_map old (find q xs)
  find_name new old [] a n = refl
  find_name new old (x ∷ xs) a n =
      (λ i. option_map new (cond (a.0 i) (Some (f x)) (find p (map f xs)))) ∙ go (q x) refl (find_name new old xs a.1 n.1)
    where
      go : (b : Bool) → q x ≡ b → option_map new (find p (map f xs)) ≡ option_map old (find q xs)
          → option_map new (cond b (Some (f x)) (find p (map f xs))) ≡ option_map old (cond b (Some x) (find q xs))
      go true h r = ap Some (n.0 h)
      go false h r = r

pub lookup_map : {A B C : Type 0} (f : A → B) (p : B → Bool) (q : A → Bool) (rows : List (A × C)) → AllByRecursion (λ r. p (f r.0) ≡ q r.0) rows → lookup p (map {B = B × C} (λ r. (f r.0, r.1)) rows) ≡ lookup q rows
lookup_map f p q [] a = refl
lookup_map f p q (r ∷ rows) a = λ i. cond (a.0 i) (Some r.1) (lookup_map f p q rows a.1 i)

pub any_flat : {A B : Type 0} (p : B → Bool) (q : A → Bool) (f : A → List B) (xs : List A) → AllByRecursion (λ x. list_any p (f x) ≡ q x) xs → list_any p (flat_map f xs) ≡ list_any q xs
any_flat p q f [] a = refl
any_flat p q f (x ∷ xs) a = list_any-append p (f x) (flat_map f xs) ∙ ap₂ (λ b c. b || c) a.0 (any_flat p q f xs a.1)

pub any_map : {A B : Type 0} (f : A → B) (p : B → Bool) (q : A → Bool) (xs : List A) → AllByRecursion (λ x. p (f x) ≡ q x) xs → list_any p (map f xs) ≡ list_any q xs
any_map f p q [] a = refl
any_map f p q (x ∷ xs) a = ap₂ (λ b c. b || c) a.0 (any_map f p q xs a.1)

pub all_both : {A : Type 0} (P Q : A → Type 0) (xs : List A) → AllByRecursion P xs → AllByRecursion Q xs → AllByRecursion (λ x. P x × Q x) xs
all_both P Q [] a b = tt
all_both P Q (x ∷ xs) a b = ((a.0, b.0), all_both P Q xs a.1 b.1)

pub all_front : {A : Type 0} (P : A → Type 0) (xs ys : List A) → AllByRecursion P (xs ++ ys) → AllByRecursion P xs
all_front P [] ys a = tt
all_front P (x ∷ xs) ys a = (a.0, all_front P xs ys a.1)

pub all_back : {A : Type 0} (P : A → Type 0) (xs ys : List A) → AllByRecursion P (xs ++ ys) → AllByRecursion P ys
all_back P [] ys a = a
all_back P (x ∷ xs) ys a = all_back P xs ys a.1

pub all_units : {A : Type 0} (xs : List A) → AllByRecursion (λ x. Unit {0}) xs
all_units [] = tt
all_units (x ∷ xs) = (tt, all_units xs)

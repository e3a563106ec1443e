-- Lists of which all elements are known to be something.
use Rattle.std.proofs.Common.{◌≡◌, Bool, true, List, [], ◌∷◌, ◌++◌, refl}
use Rattle.std.specs.Prelude.{⊤}
use Rattle.std.specs.List.{list_all, AllByRecursion}
use Rattle.std.proofs.lemmas.Bool.{and_from, and_parts}

pub all_units : {A : Type 0} (xs : List A) → AllByRecursion (λ x. ⊤) xs
all_units [] = tt
all_units (x ∷ xs) = (tt, all_units xs)

pub all_of_append : {A : Type 0} (P : A → Type 0) (xs ys : List A) → AllByRecursion P xs → AllByRecursion P ys → AllByRecursion P (xs ++ ys)
all_of_append P [] ys a b = b
all_of_append P (x ∷ xs) ys a b = (a.0, all_of_append P xs ys a.1 b)

pub all_tests : {A : Type 0} (p : A → Bool) (xs : List A) → list_all p xs ≡ true → AllByRecursion (λ x. p x ≡ true) xs
all_tests p [] h = tt
all_tests p (x ∷ xs) h = let both = and_parts (p x) (list_all p xs) h in (both.0, all_tests p xs both.1)

pub all_tested : {A : Type 0} (p : A → Bool) (xs : List A) → AllByRecursion (λ x. p x ≡ true) xs → list_all p xs ≡ true
all_tested p [] a = refl
all_tested p (x ∷ xs) a = and_from (p x) (list_all p xs) a.0 (all_tested p xs a.1)

-- The first pair in conflict is that of the first entry that can be in one.
use Rattle.std.proofs.Common.{◌≡◌, Bool, true, false, cond, ◌&&◌, List, [], ◌∷◌, ◌++◌, map, Option, Some, None, refl, ap, ◌∙◌, subst, filter}
use Rattle.std.specs.Prelude.{find}
use Rattle.std.specs.Option.{option_map}
use Rattle.std.proofs.lemmas.Bool.{and_left, cond-true, cond-false}
use Rattle.std.proofs.lemmas.List.Elements.{filter-append}
use Rattle.linkage_rules.specs.Lists.{pairs, first}

module _ {A : Type 0} (part : A → Bool) (differs : A → A → Bool) (apart : (x y z : A) → differs x y ≡ false → differs x z ≡ false → differs y z ≡ false) where
  abbrev pub test : A × A → Bool
  test p = part p.0 && (part p.1 && differs p.0 p.1)

  abbrev with_all : A → List A → List (A × A)
  with_all x ys = map {B = A × A} (λ y. (x, y)) ys

  -- with one that takes no part there is none
  none_with : (x : A) (ys : List A) → part x ≡ false → filter test (with_all x ys) ≡ []
  none_with x [] e = refl
  none_with x (y ∷ ys) e = cond-false (test (x, y)) _ _ (and_left (part x) _ e) ∙ none_with x ys e

  -- where none differs from x, none differs from another
  alike_all : (x : A) (ys : List A) → find (λ y. part y && differs x y) ys ≡ None → filter test (pairs ys) ≡ []
  alike_all x [] h = refl
  alike_all x (y ∷ ys) h = go (part y && differs x y) refl h (alike_all x ys)
    where
      rest_with : (zs : List A) → (part y ≡ true → differs x y ≡ false) → find (λ z. part z && differs x z) zs ≡ None → filter test (with_all y zs) ≡ []
      rest_with [] d n = refl
      rest_with (z ∷ zs) d n = by (part z && differs x z) refl n (rest_with zs d)
        where
          fails : (b c : Bool) → part y ≡ b → part z ≡ c → (part z && differs x z) ≡ false → (b && (c && differs y z)) ≡ false
          fails false c p q t = refl
          fails true false p q t = refl
          fails true true p q t = apart x y z (d p) (subst (λ b. (b && differs x z) ≡ false) q t)

          by : (b : Bool) → (part z && differs x z) ≡ b → cond b (Some z) (find (λ w. part w && differs x w) zs) ≡ None → (find (λ w. part w && differs x w) zs ≡ None → filter test (with_all y zs) ≡ []) → filter test (with_all y (z ∷ zs)) ≡ []
          by true t n more = cc
          by false t n more = cond-false (test (y, z)) _ _ (fails (part y) (part z) refl refl t) ∙ more n

      go : (b : Bool) → (part y && differs x y) ≡ b → cond b (Some y) (find (λ w. part w && differs x w) ys) ≡ None → (find (λ w. part w && differs x w) ys ≡ None → filter test (pairs ys) ≡ []) → filter test (with_all y ys ++ pairs ys) ≡ []
      go true t n more = cc
      go false t n more =
          filter-append test (with_all y ys) (pairs ys)
          ∙ ap (λ l. l ++ filter test (pairs ys)) (rest_with ys (λ p. subst (λ b. (b && differs x y) ≡ false) p t) n)
          ∙ more n

  -- with one that takes part the first is with the first that differs from it
  first_with : (x : A) (ys : List A) → part x ≡ true → first (filter test (with_all x ys)) ≡ option_map {U = A × A} (λ y. (x, y)) (find (λ y. part y && differs x y) ys)
  first_with x [] e = refl
  first_with x (y ∷ ys) e = go (part y && differs x y) refl (first_with x ys e)
    where
      tested : test (x, y) ≡ (part y && differs x y)
      tested = ap (λ b. b && (part y && differs x y)) e

      go : (b : Bool) → (part y && differs x y) ≡ b → first (filter test (with_all x ys)) ≡ option_map {U = A × A} (λ z. (x, z)) (find (λ z. part z && differs x z) ys) → first (cond (test (x, y)) ((x, y) ∷ filter test (with_all x ys)) (filter test (with_all x ys))) ≡ option_map {U = A × A} (λ z. (x, z)) (cond b (Some y) (find (λ z. part z && differs x z) ys))
      go true t h = ap first (cond-true (test (x, y)) _ _ (tested ∙ t))
      go false t h = ap first (cond-false (test (x, y)) _ _ (tested ∙ t)) ∙ h

  -- the search along a list
  abbrev pub searched : List A → Option (A × A)
  searched [] = None
  searched (x ∷ xs) = cond (part x) (option_map {U = A × A} (λ y. (x, y)) (find (λ y. part y && differs x y) xs)) (searched xs)

  pub first_pair : (xs : List A) → first (filter test (pairs xs)) ≡ searched xs
  first_pair [] = refl
  first_pair (x ∷ xs) = ap first (filter-append test (with_all x xs) (pairs xs)) ∙ go (part x) refl (first_pair xs)
    where
      found : (o : Option A) → find (λ y. part y && differs x y) xs ≡ o → part x ≡ true → first (filter test (with_all x xs) ++ filter test (pairs xs)) ≡ option_map {U = A × A} (λ y. (x, y)) o
      found None n e =
          ap (λ l. first (filter test (with_all x xs) ++ l)) (alike_all x xs n)
          ∙ first_nil (filter test (with_all x xs)) ∙ first_with x xs e ∙ ap (option_map {U = A × A} (λ y. (x, y))) n
        where
          first_nil : (ys : List (A × A)) → first (ys ++ []) ≡ first ys
          first_nil [] = refl
          first_nil (y ∷ ys) = refl
      found (Some y) n e = there (filter test (with_all x xs)) (first_with x xs e ∙ ap (option_map {U = A × A} (λ z. (x, z))) n)
        where
          there : (ys : List (A × A)) → first ys ≡ Some (x, y) → first (ys ++ filter test (pairs xs)) ≡ Some (x, y)
          there [] h = cc
          there (z ∷ ys) h = h

      go : (b : Bool) → part x ≡ b → first (filter test (pairs xs)) ≡ searched xs → first (filter test (with_all x xs) ++ filter test (pairs xs)) ≡ cond b (option_map {U = A × A} (λ y. (x, y)) (find (λ y. part y && differs x y) xs)) (searched xs)
      go true e h = found (find (λ y. part y && differs x y) xs) refl e
      go false e h = ap (λ l. first (l ++ filter test (pairs xs))) (none_with x xs e) ∙ h

-- Entries that get what they hold one after the other.
use Rattle.std.proofs.Common.{◌≡◌, ◌+◌, ℕ, zero, suc, List, [], ◌∷◌, length, set, slice_get, get_or, take, Option, Some, None, All, refl, sym, ap, subst, ◌∙◌, arith, add-one}
use Rattle.std.specs.Option.{option_map_or}
use Rattle.std.specs.Prelude.{option_to_list}
use Rattle.std.proofs.lemmas.List.Elements.{All-head, All-tail}
use Rattle.module_arena.specs.Changes.{changed_at}
use Rattle.bitcode_read.specs.Holding.Holding.{each_with}

nil_taken : {A : Type 0} (n : ℕ) → take {A = A} n [] ≡ []
nil_taken zero = refl
nil_taken (suc n) = refl

module _ {A B : Type 0} (put : A → Option B → A) where
  -- nothing is given where there is nothing
  each_none : (os : List (Option B)) → each_with put [] os ≡ []
  each_none [] = refl
  each_none (o ∷ os) = refl

  pub length-each : (xs : List A) (os : List (Option B)) → length (each_with put xs os) ≡ length xs
  length-each xs [] = refl
  length-each [] (o ∷ os) = refl
  length-each (x ∷ xs) (o ∷ os) = ap suc (length-each xs os)

  -- those behind what was given are what they were
  pub each_later : (xs : List A) (os : List (Option B)) (n : ℕ) → slice_get (each_with put xs (take n os)) n ≡ slice_get xs n
  each_later xs os zero = refl
  each_later [] os (suc n) = ap (λ (l : List A). slice_get l (suc n)) (each_none (take (suc n) os))
  each_later (x ∷ xs) [] (suc n) = refl
  each_later (x ∷ xs) (o ∷ os) (suc n) = each_later xs os n

  -- a change behind the first element leaves it
  cons_changed : (x : A) (xs : List A) (k : ℕ) (change : A → A) → changed_at (x ∷ xs) (suc k) change ≡ x ∷ changed_at xs k change
  cons_changed x xs k change = go (slice_get xs k)
    where
      go : (o : Option A) → option_map_or (λ y. set (x ∷ xs) (suc k) (change y)) o (x ∷ xs) ≡ x ∷ option_map_or (λ y. set xs k (change y)) o xs
      go None = refl
      go (Some y) = refl

  -- one more is given something
  one_given : (xs : List A) (os : List (Option B)) (n : ℕ) (b : B) → get_or os n None ≡ Some b → each_with put xs (take (suc n) os) ≡ changed_at (each_with put xs (take n os)) n (λ x. put x (Some b))
  one_given xs [] n b is = absurd (cc)
  one_given [] (o ∷ os) zero b is = refl
  one_given [] (o ∷ os) (suc n) b is = refl
  one_given (x ∷ xs) (o ∷ os) zero b is = ap (λ p. put x p ∷ xs) is
  one_given (x ∷ xs) (o ∷ os) (suc n) b is = ap (λ (l : List A). put x o ∷ l) (one_given xs os n b is) ∙ sym (cons_changed (put x o) (each_with put xs (take n os)) n (λ y. put y (Some b)))

  -- one more is given nothing, and had nothing
  none_given : (xs : List A) (os : List (Option B)) (n : ℕ) → ((i : ℕ) (x : A) → slice_get xs i ≡ Some x → put x None ≡ x) → get_or os n None ≡ None → each_with put xs (take (suc n) os) ≡ each_with put xs (take n os)
  none_given xs [] n had is = ap (λ l. each_with put xs l) (nil_taken {A = Option B} (suc n) ∙ sym (nil_taken {A = Option B} n))
  none_given [] (o ∷ os) zero had is = refl
  none_given [] (o ∷ os) (suc n) had is = refl
  none_given (x ∷ xs) (o ∷ os) zero had is = ap (λ p. put x p ∷ xs) is ∙ ap (λ y. y ∷ xs) (had 0 x refl)
  none_given (x ∷ xs) (o ∷ os) (suc n) had is = ap (λ (l : List A). put x o ∷ l) (none_given xs os n (λ i. had (suc i)) is)

  -- the same, as a loop counts
  pub given_next : (xs : List A) (os : List (Option B)) (n : ℕ) (b : B) → get_or os n None ≡ Some b → each_with put xs (take (n + 1) os) ≡ changed_at (each_with put xs (take n os)) n (λ x. put x (Some b))
  given_next xs os n b is = ap (λ k. each_with put xs (take k os)) (add-one n) ∙ one_given xs os n b is

  pub none_next : (xs : List A) (os : List (Option B)) (n : ℕ) → ((i : ℕ) (x : A) → slice_get xs i ≡ Some x → put x None ≡ x) → get_or os n None ≡ None → each_with put xs (take (n + 1) os) ≡ each_with put xs (take n os)
  none_next xs os n had is = ap (λ k. each_with put xs (take k os)) (add-one n) ∙ none_given xs os n had is

  -- all are given
  pub all_given : (xs : List A) (os : List (Option B)) (n : ℕ) → n ≡ length xs → each_with put xs (take n os) ≡ each_with put xs os
  all_given [] os n is = each_none (take n os) ∙ sym (each_none os)
  all_given (x ∷ xs) [] n is = ap (λ l. each_with put (x ∷ xs) l) (nil_taken {A = Option B} n)
  all_given (x ∷ xs) (o ∷ os) zero is = absurd (omega arith)
  all_given (x ∷ xs) (o ∷ os) (suc n) is = ap (λ (l : List A). put x o ∷ l) (all_given xs os n (omega arith))

-- what holds of each is there
pub at_each : {A : Type 0} (P : A → Type 0) (xs : List A) (i : ℕ) (x : A) → All P xs → slice_get xs i ≡ Some x → P x
at_each P [] i x all is = absurd (cc)
at_each P (y ∷ ys) zero x all is = subst P (some_is is) (All-head P y ys all)
  where
    some_is : {A : Type 0} {x y : A} → Some y ≡ Some x → y ≡ x
    some_is e = cc
at_each P (y ∷ ys) (suc i) x all is = at_each P ys i x (All-tail P y ys all) is

-- of what is given too
pub at_given : {B : Type 0} (P : B → Type 0) (os : List (Option B)) (n : ℕ) (b : B) → All (λ o. All P (option_to_list o)) os → get_or os n None ≡ Some b → P b
at_given P [] n b all is = absurd (cc)
at_given {B} P (o ∷ os) zero b all is = All-head P b [] (subst (λ (p : Option B). All P (option_to_list p)) is (All-head (λ p. All P (option_to_list p)) o os all))
at_given P (o ∷ os) (suc n) b all is = at_given P os n b (All-tail (λ p. All P (option_to_list p)) o os all) is

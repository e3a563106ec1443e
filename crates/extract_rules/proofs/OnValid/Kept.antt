-- What is kept or declared of a module's functions: no intrinsic more, and each function that is named.
use Rattle.std.proofs.Common.{◌≡◌, Bool, true, false, ◌||◌, ◌⊎◌, inl, inr, List, [], ◌∷◌, ◌++◌, filter, filter_map, flat_map, Option, Some, None, refl, sym, ◌∙◌, subst, cond, if◌then◌else◌}
use Rattle.std.specs.List.{cons_option, list_any, AllByRecursion}
use Rattle.std.proofs.lemmas.Bool.{or_left, or_right, or_cases}
use Rattle.std.proofs.lemmas.Option.{same_Some}
use Rattle.std.proofs.lemmas.List.Folds.{list_any-append}
use Rattle.module_arena.specs.Valid.{Demand, AllHold}
use Rattle.module_arena.proofs.Parts.{front_holds, rest_holds, both_hold}

-- LISTS

pub all_held : {X : Type 0} (f : X → List Demand) (xs : List X) → AllHold (flat_map f xs) → AllByRecursion (λ x. AllHold (f x)) xs
all_held f [] h = tt
all_held f (x ∷ xs) h = (front_holds (f x) _ h, all_held f xs (rest_holds (f x) _ h))

pub all_filtered : {X : Type 0} (P : X → Type 0) (test : X → Bool) (xs : List X) → AllByRecursion P xs → AllByRecursion P (filter test xs)
all_filtered P test [] a = tt
all_filtered P test (x ∷ xs) a = go (test x) (all_filtered P test xs a.1)
  where
    go : (b : Bool) → AllByRecursion P (filter test xs) → AllByRecursion P (cond b (x ∷ filter test xs) (filter test xs))
    go true more = (a.0, more)
    go false more = more

-- what is made of elements of which something is known
pub made_hold : {X Y : Type 0} (P : X → Type 0) (f : X → Option Y) (g : Y → List Demand) → ((x : X) → P x → (y : Y) → f x ≡ Some y → AllHold (g y)) → (xs : List X) → AllByRecursion P xs → AllHold (flat_map g (filter_map f xs))
made_hold P f g each [] a = tt
made_hold {Y = Y} P f g each (x ∷ xs) a = go (f x) refl (made_hold P f g each xs a.1)
  where
    go : (o : Option Y) → f x ≡ o → AllHold (flat_map g (filter_map f xs)) → AllHold (flat_map g (cons_option o (filter_map f xs)))
    go None e more = more
    go (Some y) e more = both_hold (g y) _ (each x a.0 y e) more

-- where an element passes a test, what is made of it passes another
pub made_any : {X Y : Type 0} (P : X → Type 0) (f : X → Option Y) (p : X → Bool) (q : Y → Bool) → ((x : X) → P x → p x ≡ true → (y : Y) × (f x ≡ Some y) × (q y ≡ true)) → (xs : List X) → AllByRecursion P xs → list_any p xs ≡ true → list_any q (filter_map f xs) ≡ true
made_any P f p q each [] a h = cc
made_any {Y = Y} P f p q each (x ∷ xs) a h = go (or_cases (p x) _ h) (made_any P f p q each xs a.1)
  where
    step : (o : Option Y) → list_any q (filter_map f xs) ≡ true → list_any q (cons_option o (filter_map f xs)) ≡ true
    step None t = t
    step (Some y) t = or_right (q y) _ t

    go : (p x ≡ true) ⊎ (list_any p xs ≡ true) → (list_any p xs ≡ true → list_any q (filter_map f xs) ≡ true) → list_any q (cons_option (f x) (filter_map f xs)) ≡ true
    go (inl e) more = let r = each x a.0 e in subst (λ o. list_any q (cons_option o (filter_map f xs)) ≡ true) (sym r.1) (or_left (q r.0) _ r.2)
    go (inr t) more = step (f x) (more t)

-- and where what is made passes a test, an element passes another
pub from_made : {X Y : Type 0} (P : X → Type 0) (f : X → Option Y) (p : X → Bool) (q : Y → Bool) → ((x : X) → P x → (y : Y) → f x ≡ Some y → q y ≡ true → p x ≡ true) → (xs : List X) → AllByRecursion P xs → list_any q (filter_map f xs) ≡ true → list_any p xs ≡ true
from_made P f p q each [] a h = cc
from_made {Y = Y} P f p q each (x ∷ xs) a h = go (f x) refl h (from_made P f p q each xs a.1)
  where
    split : (y : Y) → f x ≡ Some y → (q y ≡ true) ⊎ (list_any q (filter_map f xs) ≡ true) → (list_any q (filter_map f xs) ≡ true → list_any p xs ≡ true) → list_any p (x ∷ xs) ≡ true
    split y e (inl t) more = or_left (p x) _ (each x a.0 y e t)
    split y e (inr t) more = or_right (p x) _ (more t)

    go : (o : Option Y) → f x ≡ o → list_any q (cons_option o (filter_map f xs)) ≡ true → (list_any q (filter_map f xs) ≡ true → list_any p xs ≡ true) → list_any p (x ∷ xs) ≡ true
    go None e h more = or_right (p x) _ (more h)
    go (Some y) e h more = split y e (or_cases (q y) _ h) more

pub any_front : {A : Type 0} (test : A → Bool) (xs ys : List A) → list_any test xs ≡ true → list_any test (xs ++ ys) ≡ true
any_front test xs ys h = list_any-append test xs ys ∙ or_left _ _ h

pub any_back : {A : Type 0} (test : A → Bool) (xs ys : List A) → list_any test ys ≡ true → list_any test (xs ++ ys) ≡ true
any_back test xs ys h = list_any-append test xs ys ∙ or_right (list_any test xs) _ h

pub any_follow : {A : Type 0} (P : A → Type 0) (p q : A → Bool) (xs : List A) → ((x : A) → P x → p x ≡ true → q x ≡ true) → AllByRecursion P xs → list_any p xs ≡ true → list_any q xs ≡ true
any_follow P p q [] f a h = cc
any_follow P p q (x ∷ xs) f a h = go (or_cases (p x) _ h) (any_follow P p q xs f a.1)
  where
    go : (p x ≡ true) ⊎ (list_any p xs ≡ true) → (list_any p xs ≡ true → list_any q xs ≡ true) → (q x || list_any q xs) ≡ true
    go (inl e) more = or_left (q x) _ (f x a.0 e)
    go (inr e) more = or_right (q x) _ (more e)

pub never : {A : Type 0} (P : A → Type 0) (p : A → Bool) (xs : List A) → ((x : A) → P x → p x ≡ true → ⊥) → AllByRecursion P xs → list_any p xs ≡ true → ⊥
never P p [] f a h = cc
never P p (x ∷ xs) f a h = go (or_cases (p x) _ h) (never P p xs f a.1)
  where
    go : (p x ≡ true) ⊎ (list_any p xs ≡ true) → (list_any p xs ≡ true → ⊥) → ⊥
    go (inl e) more = f x a.0 e
    go (inr e) more = more e

-- one of two, or nothing
pub either : {Y : Type 0} (P : Y → Type 0) (b c : Bool) (x z y : Y) → (if b then Some x else (if c then Some z else None)) ≡ Some y → (b ≡ true → P x) → (b ≡ false → c ≡ true → P z) → P y
either P true c x z y e p q = subst P (same_Some x y e) (p refl)
either P false true x z y e p q = subst P (same_Some z y e) (q refl refl)
either P false false x z y e p q = cc

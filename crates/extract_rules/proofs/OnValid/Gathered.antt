-- What is gathered of the elements of a list: which of it passes a test, and what is found in it.
use Rattle.std.proofs.Common.{◌≡◌, Bool, true, false, not, ◌&&◌, ◌⊎◌, inl, inr, List, [], ◌∷◌, ◌++◌, filter, filter_map, flat_map, Option, Some, None, refl, sym, ap, subst, bytes_eq, cond}
use Rattle.std.specs.List.{cons_option, list_any, list_all, AllByRecursion}
use Rattle.std.proofs.lemmas.Bool.{and_from, and_parts, or_left, or_right, or_cases, cases_Bool}
use Rattle.module_arena.specs.Module.{Bytes}
use Rattle.extract_rules.specs.Selected.{is_among}
use Rattle.extract_rules.proofs.Closure.{all_follow}
use Rattle.extract_rules.proofs.OnValid.Kept.{any_front, any_back}

pub all_parts : {A : Type 0} (p : A → Bool) (xs ys : List A) → list_all p (xs ++ ys) ≡ true → (list_all p xs ≡ true) × (list_all p ys ≡ true)
all_parts p [] ys h = (refl, h)
all_parts p (x ∷ xs) ys h =
    let both = and_parts (p x) _ h in
    let rest = all_parts p xs ys both.1 in
    (and_from _ _ both.0 rest.0, rest.1)

pub all_both : {A : Type 0} (p : A → Bool) (xs ys : List A) → list_all p xs ≡ true → list_all p ys ≡ true → list_all p (xs ++ ys) ≡ true
all_both p [] ys a b = b
all_both p (x ∷ xs) ys a b = let both = and_parts (p x) _ a in and_from _ _ both.0 (all_both p xs ys both.1 b)

-- what is gathered of each element passes a test
pub all_gathered : {X A : Type 0} (p : A → Bool) (g : X → List A) (xs : List X) → AllByRecursion (λ x. list_all p (g x) ≡ true) xs → list_all p (flat_map g xs) ≡ true
all_gathered p g [] a = refl
all_gathered p g (x ∷ xs) a = all_both p (g x) (flat_map g xs) a.0 (all_gathered p g xs a.1)

pub gathered_all : {X A : Type 0} (p : A → Bool) (g : X → List A) (xs : List X) → list_all p (flat_map g xs) ≡ true → AllByRecursion (λ x. list_all p (g x) ≡ true) xs
gathered_all p g [] h = tt
gathered_all p g (x ∷ xs) h = let both = all_parts p (g x) (flat_map g xs) h in (both.0, gathered_all p g xs both.1)

-- what is made of some elements
pub made_all : {X Y : Type 0} (P : X → Type 0) (f : X → Option Y) (Q : Y → Type 0) → ((x : X) → P x → (y : Y) → f x ≡ Some y → Q y) → (xs : List X) → AllByRecursion P xs → AllByRecursion Q (filter_map f xs)
made_all P f Q each [] a = tt
made_all {Y = Y} P f Q each (x ∷ xs) a = go (f x) refl (made_all P f Q each xs a.1)
  where
    go : (o : Option Y) → f x ≡ o → AllByRecursion Q (filter_map f xs) → AllByRecursion Q (cons_option o (filter_map f xs))
    go None e more = more
    go (Some y) e more = (each x a.0 y e, more)

pub both_all : {A : Type 0} (P Q : A → Type 0) (xs : List A) → AllByRecursion P xs → AllByRecursion Q xs → AllByRecursion (λ x. P x × Q x) xs
both_all P Q [] p q = tt
both_all P Q (x ∷ xs) p q = ((p.0, q.0), both_all P Q xs p.1 q.1)

-- what is in an element that passes a test is in what is gathered of all that do
pub gathered : {X : Type 0} (test : X → Bool) (f : X → List Bytes) (xs : List X) → AllByRecursion (λ x. test x ≡ true → (name : Bytes) → is_among (f x) name ≡ true → is_among (flat_map f (filter test xs)) name ≡ true) xs
gathered test f [] = tt
gathered {X = X} test f (x ∷ xs) = (
  λ t name h. subst (λ b. is_among (flat_map f (cond b (x ∷ filter test xs) (filter test xs))) name ≡ true) (sym t) (any_front (bytes_eq name) (f x) (flat_map f (filter test xs)) h),
  all_follow (λ y. test y ≡ true → (name : Bytes) → is_among (f y) name ≡ true → is_among (flat_map f (filter test xs)) name ≡ true) (λ y. test y ≡ true → (name : Bytes) → is_among (f y) name ≡ true → is_among (flat_map f (cond (test x) (x ∷ filter test xs) (filter test xs))) name ≡ true) xs (λ y p t name h. more (test x) name (p t name h)) (gathered test f xs),
)
  where
    more : (b : Bool) (name : Bytes) → is_among (flat_map f (filter test xs)) name ≡ true → is_among (flat_map f (cond b (x ∷ filter test xs) (filter test xs))) name ≡ true
    more true name h = any_back (bytes_eq name) (f x) (flat_map f (filter test xs)) h
    more false name h = h

pub any_split : {A : Type 0} (p k : A → Bool) (xs : List A) → list_any p xs ≡ true → (list_any (λ x. p x && k x) xs ≡ true) ⊎ (list_any (λ x. p x && not (k x)) xs ≡ true)
any_split p k [] h = cc
any_split p k (x ∷ xs) h = go (or_cases (p x) _ h) (any_split p k xs)
  where
    Goal : Type 0
    Goal = (list_any (λ x. p x && k x) (x ∷ xs) ≡ true) ⊎ (list_any (λ x. p x && not (k x)) (x ∷ xs) ≡ true)

    here : p x ≡ true → (k x ≡ true) ⊎ (k x ≡ false) → Goal
    here e (inl t) = inl (or_left _ _ (and_from (p x) (k x) e t))
    here e (inr f) = inr (or_left _ _ (and_from (p x) (not (k x)) e (ap not f)))

    later : (list_any (λ x. p x && k x) xs ≡ true) ⊎ (list_any (λ x. p x && not (k x)) xs ≡ true) → Goal
    later (inl t) = inl (or_right (p x && k x) _ t)
    later (inr t) = inr (or_right (p x && not (k x)) _ t)

    go : (p x ≡ true) ⊎ (list_any p xs ≡ true) → (list_any p xs ≡ true → (list_any (λ x. p x && k x) xs ≡ true) ⊎ (list_any (λ x. p x && not (k x)) xs ≡ true)) → Goal
    go (inl e) more = here e (cases_Bool (k x))
    go (inr e) more = later (more e)

pub any_filtered : {A : Type 0} (p test : A → Bool) (xs : List A) → ((x : A) → p x ≡ true → test x ≡ true) → list_any p xs ≡ true → list_any p (filter test xs) ≡ true
any_filtered p test [] f h = cc
any_filtered {A = A} p test (x ∷ xs) f h = go (or_cases (p x) _ h) (any_filtered p test xs f)
  where
    step : (b : Bool) → list_any p (filter test xs) ≡ true → list_any p (cond b (x ∷ filter test xs) (filter test xs)) ≡ true
    step true t = or_right (p x) _ t
    step false t = t

    go : (p x ≡ true) ⊎ (list_any p xs ≡ true) → (list_any p xs ≡ true → list_any p (filter test xs) ≡ true) → list_any p (cond (test x) (x ∷ filter test xs) (filter test xs)) ≡ true
    go (inl e) more = subst (λ b. list_any p (cond b (x ∷ filter test xs) (filter test xs)) ≡ true) (sym (f x e)) (or_left _ _ e)
    go (inr e) more = step (test x) (more e)

-- Lists of two halves: what is first of its kind, what passes a test, and what is written anew.
use Rattle.std.proofs.Common.{◌≡◌, Bool, true, false, not, ◌&&◌, ◌||◌, cond, List, [], ◌∷◌, ◌++◌, map, refl, sym, ap, ap₂, ◌∙◌, filter}
use Rattle.std.specs.List.{list_any, AllByRecursion}
use Rattle.std.proofs.lemmas.Bool.{cond-true, cond-false}
use Rattle.std.proofs.lemmas.List.Elements.{filter-append}
use Rattle.linkage_rules.specs.Lists.{firsts}
use Rattle.linkage_rules.proofs.Entries.{all_follow}

pub same_truth : (a b : Bool) → (a ≡ true → b ≡ true) → (b ≡ true → a ≡ true) → a ≡ b
same_truth true b f g = sym (f refl)
same_truth false true f g = g refl
same_truth false false f g = refl

pub filter_alike : {A : Type 0} (p q : A → Bool) (xs : List A) → AllByRecursion (λ x. p x ≡ q x) xs
    → filter p xs ≡ filter q xs
filter_alike p q [] all = refl
filter_alike p q (x ∷ xs) all = ap₂ (λ b l. cond b (x ∷ l) l) all.0 (filter_alike p q xs all.1)

pub filter_all : {A : Type 0} (p : A → Bool) (xs : List A) → AllByRecursion (λ x. p x ≡ true) xs
    → filter p xs ≡ xs
filter_all p [] all = refl
filter_all p (x ∷ xs) all = cond-true (p x) _ _ all.0 ∙ ap (λ l. x ∷ l) (filter_all p xs all.1)

pub filter_empty : {A : Type 0} (p : A → Bool) (xs : List A) → AllByRecursion (λ x. p x ≡ false) xs
    → filter p xs ≡ []
filter_empty p [] all = refl
filter_empty p (x ∷ xs) all = cond-false (p x) _ _ all.0 ∙ filter_empty p xs all.1

pub filter_both : {A : Type 0} (p q : A → Bool) (xs : List A)
    → filter p (filter q xs) ≡ filter (λ x. q x && p x) xs
filter_both p q [] = refl
filter_both p q (x ∷ xs) = go (q x) (filter_both p q xs)
  where
    go : (b : Bool) → filter p (filter q xs) ≡ filter (λ y. q y && p y) xs
        → filter p (cond b (x ∷ filter q xs) (filter q xs))
        ≡ cond (b && p x) (x ∷ filter (λ y. q y && p y) xs) (filter (λ y. q y && p y) xs)
    go true h = ap (λ l. cond (p x) (x ∷ l) l) h
    go false h = h

and_swapped : (b c : Bool) → (b && c) ≡ (c && b)
and_swapped true true = refl
and_swapped true false = refl
and_swapped false true = refl
and_swapped false false = refl

-- two tests in either order
pub filter_swapped : {A : Type 0} (p q : A → Bool) (xs : List A)
    → filter p (filter q xs) ≡ filter q (filter p xs)
filter_swapped p q xs = filter_both p q xs ∙ go xs ∙ sym (filter_both q p xs)
  where
    go : (ys : List _) → filter (λ x. q x && p x) ys ≡ filter (λ x. p x && q x) ys
    go [] = refl
    go (y ∷ ys) = ap₂ (λ b l. cond b (y ∷ l) l) (and_swapped (q y) (p y)) (go ys)

-- what passes the narrower test passes the wider one
pub filter_narrower : {A : Type 0} (p q : A → Bool) (xs : List A)
    → AllByRecursion (λ x. p x ≡ true → q x ≡ true) xs → filter p (filter q xs) ≡ filter p xs
filter_narrower p q xs all = filter_both p q xs
    ∙ filter_alike (λ x. q x && p x) p xs (all_follow _ _ xs (λ x f. go (p x) (q x) f) all)
  where
    go : (b c : Bool) → (b ≡ true → c ≡ true) → (c && b) ≡ b
    go true c f = ap (λ d. d && true) (f refl)
    go false true f = refl
    go false false f = refl

-- a test of what is written anew
pub filter_mapped : {A B : Type 0} (f : A → B) (p : B → Bool) (q : A → Bool) (xs : List A)
    → AllByRecursion (λ x. p (f x) ≡ q x) xs → filter p (map f xs) ≡ map f (filter q xs)
filter_mapped f p q [] all = refl
filter_mapped f p q (x ∷ xs) all =
    ap₂ (λ b l. cond b (f x ∷ l) l) all.0 (filter_mapped f p q xs all.1) ∙ go (q x)
  where
    go : (b : Bool)
        → cond b (f x ∷ map f (filter q xs)) (map f (filter q xs))
        ≡ map f (cond b (x ∷ filter q xs) (filter q xs))
    go true = refl
    go false = refl

-- an element that is none of those before
abbrev pub is_new : {A : Type 0} → (A → A → Bool) → List A → A → Bool
is_new same xs y = not (list_any (λ x. same x y) xs)

new_among : (b c : Bool) → (not c && not b) ≡ not (b || c)
new_among true true = refl
new_among true false = refl
new_among false true = refl
new_among false false = refl

-- the first ones of two lists: those of the first, and of the second those that are new
pub firsts_joined : {A : Type 0} (same : A → A → Bool) (xs ys : List A)
    → firsts same (xs ++ ys) ≡ firsts same xs ++ filter (is_new same xs) (firsts same ys)
firsts_joined same [] ys = sym (filter_all (is_new same []) (firsts same ys) (all (firsts same ys)))
  where
    all : (zs : List _) → AllByRecursion (λ z. is_new same [] z ≡ true) zs
    all [] = tt
    all (z ∷ zs) = (refl, all zs)
firsts_joined same (x ∷ xs) ys =
    ap (λ l. x ∷ filter (λ y. not (same x y)) l) (firsts_joined same xs ys)
    ∙ ap (λ l. x ∷ l)
    (filter-append (λ y. not (same x y)) (firsts same xs)
    (filter (is_new same xs) (firsts same ys)))
    ∙ ap (λ l. x ∷ filter (λ y. not (same x y)) (firsts same xs) ++ l)
    (filter_both (λ y. not (same x y)) (is_new same xs) (firsts same ys) ∙ go (firsts same ys))
  where
    go : (zs : List _)
        → filter (λ z. is_new same xs z && not (same x z)) zs ≡ filter (is_new same (x ∷ xs)) zs
    go [] = refl
    go (z ∷ zs) =
        ap₂ (λ b l. cond b (z ∷ l) l) (new_among (same x z) (list_any (λ w. same w z) xs)) (go zs)

pub all_filtered : {A : Type 0} (P : A → Type 0) (p : A → Bool) (xs : List A) → AllByRecursion P xs
    → AllByRecursion P (filter p xs)
all_filtered P p [] all = tt
all_filtered P p (x ∷ xs) all = go (p x) (all_filtered P p xs all.1)
  where
    go : (b : Bool) → AllByRecursion P (filter p xs)
        → AllByRecursion P (cond b (x ∷ filter p xs) (filter p xs))
    go true rest = (all.0, rest)
    go false rest = rest

-- the first ones of what is written anew
pub firsts_mapped : {A B : Type 0} (f : A → B) (new : B → B → Bool) (old : A → A → Bool) (P : A
    → Type 0) → ((x y : A) → P x → P y → new (f x) (f y) ≡ old x y)
    → (xs : List A) → AllByRecursion P xs
    → (firsts new (map f xs) ≡ map f (firsts old xs)) × AllByRecursion P (firsts old xs)
firsts_mapped f new old P same [] all = (refl, tt)
firsts_mapped f new old P same (x ∷ xs) all =
    let rest = firsts_mapped f new old P same xs all.1 in (
      ap (λ l. f x ∷ filter (λ y. not (new (f x) y)) l) rest.0
          ∙ ap (λ l. f x ∷ l)
          (filter_mapped f (λ y. not (new (f x) y)) (λ y. not (old x y)) (firsts old xs)
          (all_follow P _ (firsts old xs) (λ y p. ap not (same x y all.0 p)) rest.1)),
      (all.0, all_filtered P (λ y. not (old x y)) (firsts old xs) rest.1),
    )

pub all_true_of : {A : Type 0} (P : A → Type 0) → ((x : A) → P x) → (xs : List A)
    → AllByRecursion P xs
all_true_of P f [] = tt
all_true_of P f (x ∷ xs) = (f x, all_true_of P f xs)

-- Tests of lists, element by element.
use Rattle.std.proofs.Common.{◌≡◌, ◌++◌, ◌&&◌, ◌||◌, List, [], ◌∷◌, map, Bool, true, false, Option, Some, None, refl, sym, bytes_eq, ℕ}
use Rattle.std.specs.List.{list_all, list_any, cons_option, flat_map}
use Rattle.std.specs.Prelude.{filter_map}
use Rattle.std.proofs.lemmas.Bool.{and_parts, and_from}
use Rattle.std.proofs.lemmas.Slice.Eq.{bytes_eq-Decides}
use Rattle.ir_phrases.specs.Constants.Forms.{AllAre}

pub all_append : {A : Type 0} (p : A → Bool) (xs ys : List A) → list_all p xs ≡ true → list_all p ys ≡ true → list_all p (xs ++ ys) ≡ true
all_append p [] ys h g = g
all_append p (x ∷ xs) ys h g =
    let parts = and_parts (p x) (list_all p xs) h in
    and_from (p x) (list_all p (xs ++ ys)) parts.0 (all_append p xs ys parts.1 g)

pub all_one : {A : Type 0} (p : A → Bool) (x : A) → p x ≡ true → list_all p (x ∷ []) ≡ true
all_one p x h = and_from (p x) true h refl

-- where each gives a list that passes, so do all of them
pub all_flat : {A B : Type 0} (p : B → Bool) (f : A → List B) (P : A → Type 0) → ((a : A) → P a → list_all p (f a) ≡ true) → (xs : List A) → AllAre P xs → list_all p (flat_map f xs) ≡ true
all_flat p f P each [] h = refl
all_flat p f P each (x ∷ xs) h = all_append p (f x) (flat_map f xs) (each x h.0) (all_flat p f P each xs h.1)

-- those that are there
pub all_there : {A B : Type 0} (p : B → Bool) (kind : A → Option B) (P : A → Type 0) → ((a : A) → P a → (b : B) → kind a ≡ Some b → p b ≡ true) → (xs : List A) → AllAre P xs → list_all p (filter_map kind xs) ≡ true
all_there p kind P each [] h = refl
all_there {A} {B} p kind P each (x ∷ xs) h = by (kind x) refl (all_there p kind P each xs h.1)
  where
    by : (o : Option B) → kind x ≡ o → list_all p (filter_map kind xs) ≡ true → list_all p (cons_option o (filter_map kind xs)) ≡ true
    by None e rest = rest
    by (Some b) e rest = and_from (p b) (list_all p (filter_map kind xs)) (each x h.0 b e) rest

or_more : (a b c : Bool) → (a || b) ≡ true → (b ≡ true → c ≡ true) → (a || c) ≡ true
or_more true b c h k = refl
or_more false b c h k = k h

pub any_map : {A B : Type 0} (p : B → Bool) (f : A → B) (xs : List A) → list_any p (map f xs) ≡ true → list_any (λ x. p (f x)) xs ≡ true
any_map p f [] h = h
any_map p f (x ∷ xs) h = or_more (p (f x)) (list_any p (map f xs)) (list_any (λ x. p (f x)) xs) h (λ e. any_map p f xs e)

-- the test of names goes both ways
pub bytes_turn : (a b : List ℕ) → bytes_eq a b ≡ bytes_eq b a
bytes_turn a b = by (bytes_eq a b) (bytes_eq b a) refl refl
  where
    by : (p q : Bool) → bytes_eq a b ≡ p → bytes_eq b a ≡ q → p ≡ q
    by true true e f = refl
    by false false e f = refl
    by true false e f = let g = (bytes_eq-Decides b a).1 (sym ((bytes_eq-Decides a b).0 e)) in absurd cc
    by false true e f = let g = (bytes_eq-Decides a b).1 (sym ((bytes_eq-Decides b a).0 f)) in absurd cc

pub are_all : {A : Type 0} (p : A → Bool) (P : A → Type 0) → ((a : A) → P a → p a ≡ true) → (xs : List A) → AllAre P xs → list_all p xs ≡ true
are_all p P each [] h = refl
are_all p P each (x ∷ xs) h = and_from (p x) (list_all p xs) (each x h.0) (are_all p P each xs h.1)

-- those that are there, each of which gives a list
pub all_flat_there : {A B C : Type 0} (p : C → Bool) (kind : A → Option B) (f : B → List C) (P : A → Type 0) → ((a : A) → P a → (b : B) → kind a ≡ Some b → list_all p (f b) ≡ true) → (xs : List A) → AllAre P xs → list_all p (flat_map f (filter_map kind xs)) ≡ true
all_flat_there p kind f P each [] h = refl
all_flat_there {A} {B} p kind f P each (x ∷ xs) h = by (kind x) refl (all_flat_there p kind f P each xs h.1)
  where
    by : (o : Option B) → kind x ≡ o → list_all p (flat_map f (filter_map kind xs)) ≡ true → list_all p (flat_map f (cons_option o (filter_map kind xs))) ≡ true
    by None e rest = rest
    by (Some b) e rest = all_append p (f b) (flat_map f (filter_map kind xs)) (each x h.0 b e) rest

pub all_mapped_there : {A B C : Type 0} (p : C → Bool) (kind : A → Option B) (f : B → C) (P : A → Type 0) → ((a : A) → P a → (b : B) → kind a ≡ Some b → p (f b) ≡ true) → (xs : List A) → AllAre P xs → list_all p (map f (filter_map kind xs)) ≡ true
all_mapped_there p kind f P each [] h = refl
all_mapped_there {A} {B} p kind f P each (x ∷ xs) h = by (kind x) refl (all_mapped_there p kind f P each xs h.1)
  where
    by : (o : Option B) → kind x ≡ o → list_all p (map f (filter_map kind xs)) ≡ true → list_all p (map f (cons_option o (filter_map kind xs))) ≡ true
    by None e rest = rest
    by (Some b) e rest = and_from (p (f b)) (list_all p (map f (filter_map kind xs))) (each x h.0 b e) rest

pub all_both : {A : Type 0} (p q : A → Bool) (xs : List A) → list_all p xs ≡ true → list_all q xs ≡ true → list_all (λ x. p x && q x) xs ≡ true
all_both p q [] h g = refl
all_both p q (x ∷ xs) h g =
    let first = and_parts (p x) (list_all p xs) h in
    let second = and_parts (q x) (list_all q xs) g in
    and_from (p x && q x) (list_all (λ x. p x && q x) xs) (and_from (p x) (q x) first.0 second.0) (all_both p q xs first.1 second.1)

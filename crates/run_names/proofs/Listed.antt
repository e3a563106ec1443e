-- Places in lists.
use Rattle.std.proofs.Common.{◌≡◌, ℕ, zero, suc, ◌+◌, ◌<◌, ◌≤◌, List, [], ◌∷◌, ◌++◌, map, filter, length, take, cond, Bool, true, false, ◌||◌, Some, refl, ap, ◌∙◌, subst, arith}
use Rattle.std.specs.Prelude.{slice_get}
use Rattle.std.specs.List.{AllByRecursion, list_any, list_all}
use Rattle.std.specs.Option.{option_map}
use Rattle.std.proofs.lemmas.Bool.{and_parts}
use Rattle.std.proofs.lemmas.Option.{same_Some}
use Rattle.linkage_rules.proofs.Steps.{take_more}

pub all_from_places : {X : Type 0} (P : X → Type 0) (xs : List X) → ((k : ℕ) (x : X) → slice_get xs k ≡ Some x → P x) → AllByRecursion P xs
all_from_places P [] h = tt
all_from_places P (x ∷ xs) h = (h 0 x refl, all_from_places P xs (λ k y e. h (suc k) y e))

pub at_place : {A : Type 0} (P : A → Type 0) (xs : List A) (k : ℕ) (x : A) → AllByRecursion P xs → slice_get xs k ≡ Some x → P x
at_place P [] k x h at = cc
at_place P (y ∷ xs) zero x h at = subst P (same_Some y x at) h.0
at_place P (y ∷ xs) (suc k) x h at = at_place P xs k x h.1 at

pub front_at : {X : Type 0} (xs ys : List X) (k : ℕ) (x : X) → slice_get xs k ≡ Some x → slice_get (xs ++ ys) k ≡ Some x
front_at [] ys k x e = cc
front_at (y ∷ xs) ys zero x e = e
front_at (y ∷ xs) ys (suc k) x e = front_at xs ys k x e

pub behind_at : {X : Type 0} (xs ys : List X) (k : ℕ) (y : X) → slice_get ys k ≡ Some y → (j : ℕ) × (slice_get (xs ++ ys) j ≡ Some y)
behind_at [] ys k y e = (k, e)
behind_at (x ∷ xs) ys k y e = let r = behind_at xs ys k y e in (suc r.0, r.1)

pub mapped_at : {X Y : Type 0} (g : X → Y) (xs : List X) (k : ℕ) (x : X) → slice_get xs k ≡ Some x → slice_get (map g xs) k ≡ Some (g x)
mapped_at g [] k x e = cc
mapped_at g (y ∷ ys) zero x e = ap (λ z. Some (g z)) (same_Some y x e)
mapped_at g (y ∷ ys) (suc k) x e = mapped_at g ys k x e

pub all_at : {A : Type 0} (p : A → Bool) (xs : List A) (k : ℕ) (x : A) → list_all p xs ≡ true → slice_get xs k ≡ Some x → p x ≡ true
all_at p [] k x h e = cc
all_at p (y ∷ xs) zero x h e = subst (λ z. p z ≡ true) (same_Some y x e) (and_parts (p y) (list_all p xs) h).0
all_at p (y ∷ xs) (suc k) x h e = all_at p xs k x (and_parts (p y) (list_all p xs) h).1 e

pub none_there : {A : Type 0} (p : A → Bool) (xs : List A) → AllByRecursion (λ x. p x ≡ false) xs → list_any p xs ≡ false
none_there p [] h = refl
none_there p (x ∷ xs) h = ap (λ b. b || list_any p xs) h.0 ∙ none_there p xs h.1

-- where a test is passed
pub record Passes {A : Type 0} (p : A → Bool) (xs : List A) : Type 0 where
  pub place : ℕ
  pub one : A
  pub at : slice_get xs place ≡ Some one
  pub passes : p one ≡ true

pub some_passes : {A : Type 0} (p : A → Bool) (xs : List A) → list_any p xs ≡ true → Passes p xs
some_passes p [] h = cc
some_passes p (x ∷ xs) h = go (p x) refl h (some_passes p xs)
  where
    go : (b : Bool) → p x ≡ b → (b || list_any p xs) ≡ true → (list_any p xs ≡ true → Passes p xs) → Passes p (x ∷ xs)
    go true e k more = record { place = 0; one = x; at = refl; passes = e }
    go false e k more = let r = more k in record { place = suc r.place; one = r.one; at = r.at; passes = r.passes }

-- what holds of all and of one more
pub last_or : {A : Type 0} (P : A → Type 0) (xs : List A) (y : A) → ((k : ℕ) (x : A) → slice_get xs k ≡ Some x → P x) → P y → (k : ℕ) (x : A) → slice_get (xs ++ y ∷ []) k ≡ Some x → P x
last_or P [] y h p zero x at = subst P (same_Some y x at) p
last_or P [] y h p (suc k) x at = cc
last_or P (z ∷ xs) y h p zero x at = h 0 x at
last_or P (z ∷ xs) y h p (suc k) x at = last_or P xs y (λ j w e. h (suc j) w e) p k x at

pub mapped_within : {A B : Type 0} (f : A → B) (xs : List A) (k : ℕ) (y : B) → option_map f (slice_get xs k) ≡ Some y → k < length xs
mapped_within f [] k y h = cc
mapped_within f (x ∷ xs) zero y h = omega arith
mapped_within f (x ∷ xs) (suc k) y h = let r = mapped_within f xs k y h in omega (arith, r)

-- one more element, which is kept or not
count_kept : {A : Type 0} (p : A → Bool) (xs : List A) (x : A) → length (filter p (xs ++ x ∷ [])) ≡ length (filter p xs) + cond (p x) 1 0
count_kept p [] x = go (p x)
  where
    go : (b : Bool) → length (cond b (x ∷ []) []) ≡ 0 + cond b 1 0
    go true = omega arith
    go false = omega arith
count_kept p (y ∷ xs) x = go (p y) (cond (p x) 1 0) (count_kept p xs x)
  where
    go : (b : Bool) (n : ℕ) → length (filter p (xs ++ x ∷ [])) ≡ length (filter p xs) + n → length (cond b (y ∷ filter p (xs ++ x ∷ [])) (filter p (xs ++ x ∷ []))) ≡ length (cond b (y ∷ filter p xs) (filter p xs)) + n
    go true n h = omega (arith, h)
    go false n h = h

pub kept_more : {A : Type 0} (p : A → Bool) (xs : List A) (k : ℕ) (x : A) → slice_get xs k ≡ Some x → p x ≡ true → length (filter p (take (k + 1) xs)) ≡ length (filter p (take k xs)) + 1
kept_more p xs k x at h = ap (λ l. length (filter p l)) (take_more xs k x at) ∙ count_kept p (take k xs) x ∙ ap (λ b. length (filter p (take k xs)) + cond b 1 0) h

pub kept_same : {A : Type 0} (p : A → Bool) (xs : List A) (k : ℕ) (x : A) → slice_get xs k ≡ Some x → p x ≡ false → length (filter p (take (k + 1) xs)) ≡ length (filter p (take k xs))
kept_same p xs k x at h =
    let none : length (filter p (take k xs)) + 0 ≡ length (filter p (take k xs)) = omega arith in
    ap (λ l. length (filter p l)) (take_more xs k x at) ∙ count_kept p (take k xs) x ∙ ap (λ b. length (filter p (take k xs)) + cond b 1 0) h ∙ none

pub kept_few : {A : Type 0} (p : A → Bool) (xs : List A) (k : ℕ) → length (filter p (take k xs)) ≤ length xs
kept_few p [] zero = omega arith
kept_few p [] (suc k) = omega arith
kept_few p (x ∷ xs) zero = omega arith
kept_few p (x ∷ xs) (suc k) = go (p x) (kept_few p xs k)
  where
    go : (b : Bool) → length (filter p (take k xs)) ≤ length xs → length (cond b (x ∷ filter p (take k xs)) (filter p (take k xs))) ≤ suc (length xs)
    go true h = omega (arith, h)
    go false h = omega (arith, h)

-- Tests of lists, and places in them.
use Rattle.std.proofs.Common.{◌≡◌, ℕ, zero, suc, List, [], ◌∷◌, ◌++◌, map, flat_map, refl, ap, ◌∙◌, subst, Bool, true, ◌||◌, Some}
use Rattle.std.specs.Prelude.{slice_get}
use Rattle.std.specs.List.{list_all, list_any}
use Rattle.std.proofs.lemmas.Bool.{and_parts, and_from, or_right}
use Rattle.std.proofs.lemmas.Option.{same_Some}
use Rattle.run_rules.proofs.OnPlaces.Options.{none_some}

module _ {X : Type 0} where
  pub front_all : (p : X → Bool) (xs ys : List X) → list_all p (xs ++ ys) ≡ true → list_all p xs ≡ true
  front_all p [] ys h = refl
  front_all p (x ∷ xs) ys h = let q = and_parts (p x) (list_all p (xs ++ ys)) h in and_from (p x) (list_all p xs) q.0 (front_all p xs ys q.1)

  pub back_all : (p : X → Bool) (xs ys : List X) → list_all p (xs ++ ys) ≡ true → list_all p ys ≡ true
  back_all p [] ys h = h
  back_all p (x ∷ xs) ys h = back_all p xs ys (and_parts (p x) (list_all p (xs ++ ys)) h).1

  -- one that is there
  pub any_there : (p : X → Bool) (xs : List X) (k : ℕ) (x : X) → slice_get xs k ≡ Some x → p x ≡ true → list_any p xs ≡ true
  any_there p [] k x e h = none_some x e
  any_there p (y ∷ ys) zero x e h = ap (λ t. t || list_any p ys) (ap p (same_Some y x e) ∙ h)
  any_there p (y ∷ ys) (suc k) x e h = or_right (p y) (list_any p ys) (any_there p ys k x e h)

  front_at : (xs ys : List X) (k : ℕ) (x : X) → slice_get xs k ≡ Some x → slice_get (xs ++ ys) k ≡ Some x
  front_at [] ys k x e = none_some x e
  front_at (y ∷ xs) ys zero x e = e
  front_at (y ∷ xs) ys (suc k) x e = front_at xs ys k x e

  pub behind_at : (xs ys : List X) (k : ℕ) (y : X) → slice_get ys k ≡ Some y → (j : ℕ) × (slice_get (xs ++ ys) j ≡ Some y)
  behind_at [] ys k y e = (k, e)
  behind_at (x ∷ xs) ys k y e = let r = behind_at xs ys k y e in (suc r.0, r.1)

module _ {X Y : Type 0} where
  -- of the lists that are made of some
  pub all_of_part : (p : Y → Bool) (g : X → List Y) (xs : List X) (k : ℕ) (x : X) → list_all p (flat_map g xs) ≡ true → slice_get xs k ≡ Some x → list_all p (g x) ≡ true
  all_of_part p g [] k x h e = none_some x e
  all_of_part p g (y ∷ ys) zero x h e = subst (λ z. list_all p (g z) ≡ true) (same_Some y x e) (front_all p (g y) (flat_map g ys) h)
  all_of_part p g (y ∷ ys) (suc k) x h e = all_of_part p g ys k x (back_all p (g y) (flat_map g ys) h) e

  pub in_flat : (g : X → List Y) (xs : List X) (k : ℕ) (x : X) (j : ℕ) (y : Y) → slice_get xs k ≡ Some x → slice_get (g x) j ≡ Some y → (i : ℕ) × (slice_get (flat_map g xs) i ≡ Some y)
  in_flat g [] k x j y e h = none_some x e
  in_flat g (z ∷ xs) zero x j y e h = (j, front_at (g z) (flat_map g xs) j y (ap (λ u. slice_get (g u) j) (same_Some z x e) ∙ h))
  in_flat g (z ∷ xs) (suc k) x j y e h = let r = in_flat g xs k x j y e h in behind_at (g z) (flat_map g xs) r.0 y r.1

  pub mapped_at : (g : X → Y) (xs : List X) (k : ℕ) (x : X) → slice_get xs k ≡ Some x → slice_get (map g xs) k ≡ Some (g x)
  mapped_at g [] k x e = none_some x e
  mapped_at g (y ∷ ys) zero x e = ap (λ z. Some (g z)) (same_Some y x e)
  mapped_at g (y ∷ ys) (suc k) x e = mapped_at g ys k x e

  pub mapped_append : (g : X → Y) (xs ys : List X) → map g (xs ++ ys) ≡ map g xs ++ map g ys
  mapped_append g [] ys = refl
  mapped_append g (x ∷ xs) ys = ap (λ (l : List Y). g x ∷ l) (mapped_append g xs ys)

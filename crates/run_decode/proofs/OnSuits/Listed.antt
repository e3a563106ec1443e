-- What holds of each item of a list, and of the parts of a list that is made part by part.
use Rattle.std.proofs.Common.{◌≡◌, ℕ, zero, suc, ◌+◌, ◌<◌, ◌≤◌, All, List, [], ◌∷◌, ◌++◌, get_or, flat_map, Bool, true, Some, sym, ap, ◌∙◌, subst, arith}
use Rattle.std.specs.Prelude.{slice_get}
use Rattle.std.specs.List.{AllByRecursion, list_all}
use Rattle.std.proofs.lemmas.Option.{get_or_from_slice_get, none-some, same_Some, slice_get-get_or, slice_get_within}
use Rattle.module_arena.specs.Known.{upto}
use Rattle.run_initial.proofs.OnConstants.Sounds.{back_all, front_all}

module _ {X : Type 0} (P : X → Type 0) where
  -- by what stands at each place
  pub all_of : (xs : List X) → ((k : ℕ) (x : X) → slice_get xs k ≡ Some x → P x) → All P xs
  all_of xs h = λ k d lt. h k (get_or xs k d) (slice_get-get_or xs k d lt)

  pub item_of : (xs : List X) (k : ℕ) (x : X) → All P xs → slice_get xs k ≡ Some x → P x
  item_of xs k x all at = subst P (get_or_from_slice_get xs k x x at) (all k x (slice_get_within xs k x at))

  pub front_of : (xs ys : List X) → AllByRecursion P (xs ++ ys) → AllByRecursion P xs
  front_of [] ys h = tt
  front_of (x ∷ xs) ys h = (h.0, front_of xs ys h.1)

  pub back_of : (xs ys : List X) → AllByRecursion P (xs ++ ys) → AllByRecursion P ys
  back_of [] ys h = h
  back_of (x ∷ xs) ys h = back_of xs ys h.1

  -- of the part that one item makes
  pub part_of : {Y : Type 0} (g : Y → List X) (ys : List Y) (k : ℕ) (y : Y) → AllByRecursion P (flat_map g ys) → slice_get ys k ≡ Some y → AllByRecursion P (g y)
  part_of {Y = Y} g [] k y h at = absurd (none-some y at)
  part_of {Y = Y} g (z ∷ ys) zero y h at = subst (λ (x : Y). AllByRecursion P (g x)) (same_Some z y at) (front_of (g z) (flat_map g ys) h)
  part_of {Y = Y} g (z ∷ ys) (suc k) y h at = part_of g ys k y (back_of (g z) (flat_map g ys) h) at

-- the same of tests
pub part_passes : {X Y : Type 0} (p : X → Bool) (g : Y → List X) (ys : List Y) (k : ℕ) (y : Y) → list_all p (flat_map g ys) ≡ true → slice_get ys k ≡ Some y → list_all p (g y) ≡ true
part_passes p g [] k y h at = absurd (none-some y at)
part_passes p g (z ∷ ys) zero y h at = ap (λ x. list_all p (g x)) (sym (same_Some z y at)) ∙ front_all p (g z) (flat_map g ys) h
part_passes p g (z ∷ ys) (suc k) y h at = part_passes p g ys k y (back_all p (g z) (flat_map g ys) h) at

-- so many numbers from the first on are below what is behind them
pub upto_below : (first count bound : ℕ) → first + count ≤ bound → AllByRecursion (λ n. n < bound) (upto first count)
unfolding upto
upto_below first zero bound le = tt
upto_below first (suc count) bound le = (omega (arith, le), upto_below (first + 1) count bound (omega (arith, le)))

-- Sums over a list so far.
use Rattle.std.proofs.Common.{◌≡◌, ℕ, ◌+◌, ◌<◌, ◌≤◌, List, [], ◌∷◌, ◌++◌, map, length, get_or, take, drop, All, sym, ap, ◌∙◌, subst, arith}
use Rattle.std.specs.List.{sum_by}
use Rattle.std.proofs.lemmas.List.{get_or-map, length-map, map_more, map-append, take-append-drop}
use Rattle.std.proofs.lemmas.List.Sums.{sum_by-append, sum_by_push}

module _ {X Y : Type 0} (g : X → Y) (xs : List X) (i : ℕ) where
  -- one more
  pub map_step : (x : X) → i < length xs → x ≡ get_or xs i x → map g (take (i + 1) xs) ≡ map g (take i xs) ++ g x ∷ []
  map_step x lt is = map_more g xs i x lt ∙ ap (λ y. map g (take i xs) ++ g y ∷ []) (sym is)

  module _ (f : Y → ℕ) where
    -- its part of the sum
    pub sum_step : (x : X) → i < length xs → x ≡ get_or xs i x → sum_by f (map g (take (i + 1) xs)) ≡ sum_by f (map g (take i xs)) + f (g x)
    sum_step x lt is = ap (sum_by f) (map_step x lt is) ∙ sum_by_push f (map g (take i xs)) (g x)

    -- not more than of all
    pub sum_le : sum_by f (map g (take i xs)) ≤ sum_by f (map g xs)
    sum_le =
        let both = sum_by-append f (map g (take i xs)) (map g (drop i xs)) in
        let whole = ap (sum_by f) (sym (map-append g (take i xs) (drop i xs)) ∙ ap (map g) (take-append-drop i xs)) in
        omega (arith, both, whole)

-- what holds of each view holds of the view of each
pub all_viewed : {X Y : Type 0} (P : Y → Type 0) (g : X → Y) (xs : List X) → All P (map g xs) → All (λ x. P (g x)) xs
all_viewed P g xs h k d lt = let long = length-map xs g in subst P (get_or-map g xs k d (g d) lt) (h k (g d) (omega (arith, lt, long)))

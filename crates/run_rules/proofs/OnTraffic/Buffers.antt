-- The bytes between two places of a buffer.
use Rattle.std.proofs.Common.{◌≡◌, ℕ, ◌+◌, ◌-◌, ◌≤◌, ◌<◌, List, [], ◌∷◌, length, take, drop, get_or, Some, None, refl, ap, arith}
use Rattle.std.proofs.lemmas.List.{length-take, length-drop, nil_from_length, drop_more, get_or-take}
use Rattle.run_rules.specs.Traffic.Input.{IsNext}

pub length_between : (from to : ℕ) (xs : List ℕ) → to ≤ length xs → length (drop from (take to xs)) ≡ to - from
length_between from to xs h = omega (arith, length-drop from (take to xs), length-take to xs)

-- none are there where the places are one, and none are taken
pub none_between : (from to : ℕ) (xs : List ℕ) → from ≤ to → to ≤ length xs → from ≡ to → drop from (take to xs) ≡ []
none_between from to xs l h e = nil_from_length _ (omega (arith, length_between from to xs h))

-- where none are there, the places are one
pub same_place : (from to : ℕ) (xs : List ℕ) → from ≤ to → to ≤ length xs → drop from (take to xs) ≡ [] → from ≡ to
same_place from to xs l h none = omega (arith, length_between from to xs h, ap length none)

no_next : (xs : List ℕ) → xs ≡ [] → IsNext xs None xs
no_next [] e = (refl, refl)
no_next (x ∷ xs) e = cc

-- no byte is taken where the places are one
pub none_taken : (from to : ℕ) (xs : List ℕ) → from ≤ to → to ≤ length xs → from ≡ to → IsNext (drop from (take to xs)) None (drop from (take to xs))
none_taken from to xs l h e = no_next _ (none_between from to xs l h e)

-- else the byte at the first place is taken, and those behind it are left
pub first_between : (from to : ℕ) (xs : List ℕ) (d : ℕ) → from < to → to ≤ length xs → IsNext (drop from (take to xs)) (Some (get_or xs from d)) (drop (from + 1) (take to xs))
first_between from to xs d l h =
    let long : length (take to xs) ≡ to = omega (arith, length-take to xs) in
    let there : get_or (take to xs) from d ≡ get_or xs from d = get_or-take to xs from d l in
    rw (drop_more (take to xs) from d (omega (arith, long, l)), there) (refl, refl)

-- What all pass that ask two things of each.
use Rattle.std.proofs.Common.{◌≡◌, Bool, true, ◌&&◌, List, [], ◌∷◌, refl}
use Rattle.std.specs.List.{list_all}
use Rattle.std.proofs.lemmas.Bool.{and_parts}

-- all pass each of them
pub both_pass : {A : Type 0} (p q : A → Bool) (xs : List A) → list_all (λ x. p x && q x) xs ≡ true → (list_all p xs ≡ true) × (list_all q xs ≡ true)
both_pass p q [] h = (refl, refl)
both_pass p q (x ∷ xs) h =
    let parts = and_parts _ _ h in
    let here = and_parts _ _ parts.0 in
    let others = both_pass p q xs parts.1 in
    ((λ j. here.0 j && others.0 j), (λ j. here.1 j && others.1 j))

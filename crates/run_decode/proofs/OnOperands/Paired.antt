-- What is made of the items of two lists side by side.
use Rattle.std.proofs.Common.{◌≡◌, List, [], ◌∷◌, map, refl}
use Rattle.std.specs.Prelude.{zip}

pub mapped_pairs : {A B C D E : Type 0} (made : A × B → C) (seen : C → D × E) (first : A → D) (second : B → E) → ((x : A) (y : B) → seen (made (x, y)) ≡ (first x, second y)) → (xs : List A) (ys : List B)
    → map seen (map made (zip xs ys)) ≡ zip (map first xs) (map second ys)
mapped_pairs made seen first second same [] ys = refl
mapped_pairs made seen first second same (x ∷ xs) [] = refl
mapped_pairs made seen first second same (x ∷ xs) (y ∷ ys) = λ i. same x y i ∷ mapped_pairs made seen first second same xs ys i

-- What holds of the parts of an instruction, each in a list.
use Rattle.std.proofs.Common.{◌≡◌, zero, suc, List, [], ◌∷◌, map, All, refl, ap, arith}

pub map_all : {A B : Type 0} (P : B → Type 0) (Q : A → Type 0) (f : A → B) (xs : List A) → ((x : A) → Q x → P (f x)) → All Q xs → All P (map f xs)
map_all P Q f [] h all k d lt = absurd (omega arith)
map_all P Q f (x ∷ xs) h all zero d lt = h x (all 0 x (omega arith))
map_all P Q f (x ∷ xs) h all (suc k) d lt = map_all P Q f xs h (λ i e le. all (suc i) e (omega arith)) k d (omega arith)

pub map_same : {A : Type 0} (xs : List A) → map (λ x. x) xs ≡ xs
map_same [] = refl
map_same (x ∷ xs) = ap (λ ys. x ∷ ys) (map_same xs)

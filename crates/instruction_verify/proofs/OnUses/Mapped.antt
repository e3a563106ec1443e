-- What holds of each of a list.
use Rattle.std.proofs.Common.{◌≡◌, ◌<◌, ℕ, All, List, map, sym, subst, arith}
use Rattle.std.proofs.lemmas.List.{length-map}
use Rattle.type_table.proofs.UnderIds.{get_or-map}

-- what holds of what a list is mapped to
pub All-mapped : {X Y : Type 0} (P : Y → Type 0) (f : X → Y) (xs : List X) → All P (map f xs) → All (λ x. P (f x)) xs
All-mapped P f xs all k d lt = subst P (get_or-map f xs k d) (all k (f d) (omega (arith, lt, length-map xs f)))

-- numbers below one length are below another that is the same
pub All-moved : (n m : ℕ) (xs ys : List ℕ) → m ≡ n → ys ≡ xs → All (λ x. x < n) xs → All (λ x. x < m) ys
All-moved n m xs ys e f all = subst (λ (zs : List ℕ). All (λ x. x < m) zs) (sym f) (subst (λ (k : ℕ). All (λ x. x < k) xs) (sym e) all)

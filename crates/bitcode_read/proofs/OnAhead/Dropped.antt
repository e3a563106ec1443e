-- What is left of a list behind its first items.
use Rattle.std.proofs.Common.{◌≡◌, ◌≤◌, ℕ, zero, suc, List, [], ◌∷◌, ◌++◌, Some, None, length, slice_get, drop, refl, sym, ap, arith}
use Rattle.std.proofs.lemmas.Option.{none-some, same_Some}

-- nothing is left past the end
pub drop_none : {A : Type 0} (xs : List A) (n : ℕ) → slice_get xs n ≡ None → drop n xs ≡ []
drop_none [] zero h = refl
drop_none [] (suc n) h = refl
drop_none (x ∷ xs) zero h = absurd (none-some x (sym h))
drop_none (x ∷ xs) (suc n) h = drop_none xs n h

-- the item there is the first that is left
pub drop_some : {A : Type 0} (xs : List A) (n : ℕ) (x : A) → slice_get xs n ≡ Some x → drop n xs ≡ x ∷ drop (suc n) xs
drop_some [] n x h = absurd (none-some x h)
drop_some (y ∷ xs) zero x h = ap (λ z. z ∷ xs) (same_Some y x h)
drop_some (y ∷ xs) (suc n) x h = drop_some xs n x h

-- items behind a list stay
pub drop_append : {A : Type 0} (xs ys : List A) (n : ℕ) → n ≤ length xs → drop n (xs ++ ys) ≡ drop n xs ++ ys
drop_append [] ys zero le = refl
drop_append [] ys (suc n) le = absurd (omega arith)
drop_append (x ∷ xs) ys zero le = refl
drop_append (x ∷ xs) ys (suc n) le = drop_append xs ys n (omega arith)

-- A word in front of others.
use Rattle.std.proofs.Common.{◌≡◌, ℕ, suc, ◌-◌, ◌≤◌, List, ◌∷◌, set, get_or, ap, arith}

pub read_first : (x : ℕ) (xs : List ℕ) (i : ℕ) → i ≡ 0 → get_or (x ∷ xs) i 0 ≡ x
read_first x xs i e = ap (λ (n : ℕ). get_or (x ∷ xs) n 0) e

pub set_first : (x w : ℕ) (xs : List ℕ) (i : ℕ) → i ≡ 0 → set (x ∷ xs) i w ≡ w ∷ xs
set_first x w xs i e = ap (λ (n : ℕ). set (x ∷ xs) n w) e

pub set_other : (x w : ℕ) (xs : List ℕ) (i : ℕ) → 1 ≤ i → set (x ∷ xs) i w ≡ x ∷ set xs (i - 1) w
set_other x w xs i h = let e : i ≡ suc (i - 1) = omega (arith, h) in ap (λ (n : ℕ). set (x ∷ xs) n w) e

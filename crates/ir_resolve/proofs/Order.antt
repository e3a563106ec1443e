-- Numbers in order.
use Rattle.std.proofs.Common.{◌≡◌, ℕ, zero, suc, ◌+◌, Bool, true, false, cond, List, [], ◌∷◌, ◌++◌, flat_map, refl, sym, ap, ◌∙◌, arith}
use Rattle.std.proofs.lemmas.List.{append-nil}
use Rattle.std.proofs.lemmas.Grind.{flat_map-append}
use Rattle.module_arena.specs.Known.{upto}

-- so many, and so many behind them
pub upto_joined : (first m n : ℕ) → upto first (m + n) ≡ upto first m ++ upto (first + m) n
unfolding upto
upto_joined first zero n =
    let count : 0 + n ≡ n = omega arith in
    let same : first ≡ first + 0 = omega arith in
    λ j. upto (same j) (count j)
upto_joined first (suc m) n =
    let count : suc m + n ≡ suc (m + n) = omega arith in
    let behind : first + 1 + m ≡ first + suc m = omega arith in
    ap (upto first) count ∙ (λ j. first ∷ upto_joined (first + 1) m n j) ∙ (λ j. first ∷ (upto (first + 1) m ++ upto (behind j) n))

-- none
pub upto_none : (first : ℕ) → upto first 0 ≡ []
unfolding upto
upto_none first = refl

-- one, where there is one
upto_one : (b : Bool) (first : ℕ) → upto first (cond b 1 0) ≡ cond b (first ∷ []) []
unfolding upto
upto_one true first = refl
upto_one false first = refl

-- what one more gives
more_in_order : {X : Type 0} (f : X → List ℕ) (xs : List X) (x : X) (first m n : ℕ) → flat_map f xs ≡ upto first m → f x ≡ upto (first + m) n → flat_map f (xs ++ x ∷ []) ≡ upto first (m + n)
more_in_order f xs x first m n before here =
    flat_map-append f xs (x ∷ []) ∙ (λ j. before j ++ (append-nil (f x) ∙ here) j) ∙ sym (upto_joined first m n)

module _ {X : Type 0} (f : X → List ℕ) (xs more : List X) (x : X) (pushed : more ≡ xs ++ x ∷ []) (first m n : ℕ) (before : flat_map f xs ≡ upto first m) where
  -- those of a list that is one longer
  pub in_order_step : f x ≡ upto (first + m) n → flat_map f more ≡ upto first (m + n)
  in_order_step here = ap (flat_map f) pushed ∙ more_in_order f xs x first m n before here

-- what an instruction gives is one number, or none
pub one_in_order : (b : Bool) (first : ℕ) (given : List ℕ) → given ≡ cond b (first ∷ []) [] → given ≡ upto first (cond b 1 0)
one_in_order b first given e = e ∙ sym (upto_one b first)

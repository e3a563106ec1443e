-- What a sink has taken, call by call.
use Rattle.std.proofs.Common.{◌≡◌, ℕ, suc, ◌+◌, ◌≤◌, List, [], ◌∷◌, ◌++◌, length, take, Option, Some, None, refl, ap, arith}
use Rattle.std.proofs.lemmas.List.{append-nil, take-append-le}
use Rattle.ir_base.specs.Outside.{Added}

pub added_none : (before : Option (List ℕ)) → Added before before []
added_none None = refl
added_none (Some old) = rw append-nil refl

-- a front of what is added behind others is a front of the whole
pub front_is : (w x rest : List ℕ) (count : ℕ) → count ≤ length x → w ++ take count x ≡ take (length w + count) ((w ++ x) ++ rest)
front_is [] x rest count few =
    let same : 0 + count ≡ count = omega arith in
    rw (same, take-append-le) refl
front_is (n ∷ w) x rest count few =
    let same : length (n ∷ w) + count ≡ suc (length w + count) = omega arith in
    rw same (ap (λ (l : List ℕ). n ∷ l) (front_is w x rest count few))

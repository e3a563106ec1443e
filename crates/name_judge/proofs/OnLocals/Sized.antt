-- Numbers below 2^64, and the others.
use Rattle.std.specs.Prelude.{◌≡◌, ℕ, ◌≤◌, ◌^◌, nat_lt, Bool, true, false, Option, Some, None, if◌then◌else◌}
use Rattle.std.proofs.Common.{refl, ap}
use Rattle.std.proofs.lemmas.Bool.{ltb-false}
use Rattle.ir_terminals.specs.Digits.{below}

-- where nothing is found it is not
pub below_past : (n : ℕ) → None ≡ below (2 ^ 64) n → 2 ^ 64 ≤ n
below_past n e = by (nat_lt n (2 ^ 64)) refl e
  where
    by : (b : Bool) → nat_lt n (2 ^ 64) ≡ b → None ≡ (if b then Some n else None) → 2 ^ 64 ≤ n
    by true q k = absurd cc
    by false q k = ltb-false n (2 ^ 64) q

-- where a number is found it is this one
pub below_is : (n small : ℕ) → Some small ≡ below (2 ^ 64) n → small ≡ n
below_is n small e = by (nat_lt n (2 ^ 64)) e
  where
    number : Option ℕ → ℕ
    number (Some k) = k
    number None = n

    by : (b : Bool) → Some small ≡ (if b then Some n else None) → small ≡ n
    by true k = ap number k
    by false k = ap number k

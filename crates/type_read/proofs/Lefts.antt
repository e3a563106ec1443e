-- How many operands are left behind one that was taken.
use Rattle.std.proofs.Common.{◌≡◌, ℕ, false, [], ◌∷◌, Some, ap}
use Rattle.record_table.specs.Walk.{Walk, going, stopped}
use Rattle.record_read.specs.Reader.{Reader, Takes, TakesBy, is_stopped}

goes_by : (w : Walk) (before mid : Reader) (n : ℕ) → TakesBy w before (Some n) mid → is_stopped mid.walk ≡ false
goes_by (going [] broken) before mid n h = absurd h
goes_by (going (k ∷ rest) broken) before mid n h = ap (λ (r : Reader). is_stopped r.walk) h.1
goes_by (stopped broken) before mid n h = absurd h

-- what follows an operand that was taken is known
pub goes_on : (before mid : Reader) (n : ℕ) → Takes before (Some n) mid → is_stopped mid.walk ≡ false
goes_on before mid n h = goes_by before.walk before mid n h

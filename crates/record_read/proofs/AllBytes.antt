-- Items that are each below 256 are bytes.
use Rattle.std.proofs.Common.{◌≡◌, ◌<◌, ℕ, suc, true, [], ◌∷◌, get_or, length, refl, arith}
use Rattle.std.specs.Prelude.{nat_lt}
use Rattle.std.proofs.lemmas.Bool.{and_from, lt-ltb}
use Rattle.module_arena.specs.Module.{Bytes}
use Rattle.record_read.specs.Fields.{are_bytes}

pub all_bytes : (bs : Bytes) → ((i : ℕ) → i < length bs → get_or bs i 0 < 256) → are_bytes bs ≡ true
all_bytes [] each = refl
all_bytes (b ∷ bs) each = and_from (nat_lt b 256) (are_bytes bs) (lt-ltb b 256 (each 0 (omega arith))) (all_bytes bs (λ i lt. each (suc i) (omega arith)))

-- The bytes of a text are below 256.
use Rattle.std.specs.Prelude.{◌≡◌, refl, ℕ, suc, ◌<◌, nat_lt, true, List, [], ◌∷◌, get_or}
use Rattle.std.specs.List.{list_all}
use Rattle.std.proofs.lemmas.Bool.{and_from, lt-ltb}
use Rattle.module_arena.specs.Names.{are_bytes}

pub all_bytes : (bs : List ℕ) → ((i : ℕ) → get_or bs i 0 < 256) → are_bytes bs ≡ true
all_bytes [] small = refl
all_bytes (b ∷ bs) small = and_from (nat_lt b 256) (list_all (λ b. nat_lt b 256) bs) (lt-ltb b 256 (small 0)) (all_bytes bs (λ i. small (suc i)))

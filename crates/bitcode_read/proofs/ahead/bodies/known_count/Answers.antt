use Rattle.std.proofs.Common.{◌≡◌, Option, List, ℕ, true, [], ◌∷◌, refl, sym, ap, subst}
use Rattle.bitcode_read.specs.Ahead.Bodies.{count_due}
use Rattle.bitcode_read.proofs.ahead.bodies.known_count.Goals as goal

pub returns-in_ok-count-in-Some : goal.returns-in_ok-count-in-Some
returns-in_ok-count-in-Some c = subst (λ (p : Option (List ℕ)). c.in_ok-count-in-Some.count ∷ [] ≡ count_due true p) (sym c.in-Some.is) (ap (λ n. n ∷ []) c.in_ok-count-in-Some.ensures)

pub returns-in-None : goal.returns-in-None
returns-in-None c = subst (λ (p : Option (List ℕ)). [] ≡ count_due true p) (sym c.in-None.is) refl

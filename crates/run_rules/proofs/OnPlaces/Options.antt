-- An option that is not there.
use Rattle.std.proofs.Common.{◌≡◌, subst, Option, Some, None, MatchOption}
use Rattle.std.specs.Prelude.{⊤}

pub none_some : {A : Type 0} {B : Type 0} (x : A) → None ≡ Some x → B
none_some {A} x e = absurd (subst (λ (o : Option A). MatchOption o ⊤ (λ y. ⊥)) e tt)

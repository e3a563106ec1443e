-- Parts of where leaves are had from.
use Rattle.std.proofs.Common.{◌≡◌, ℕ, List, ◌++◌, take, drop, map, sym, ◌∙◌}
use Rattle.std.proofs.lemmas.List.{drop-map, take-map}
use Rattle.run_rules.specs.Action as actions
use Rattle.run_actions.specs.declared.stack.origin.Origin.{Origin}
use Rattle.run_actions.specs.Stack.Origins.{origin_of}
use Rattle.run_decode.specs.Scopes.Leaves.{Gains}
use Rattle.run_decode.proofs.OnScopes.Gained.{gains_more}

pub front_is : (whole : List Origin) (os : List actions.Origin) (n m : ℕ) → map origin_of whole ≡ os → n ≡ m → map origin_of (take n whole) ≡ take m os
front_is whole os n m e same = sym (take-map origin_of n whole) ∙ (λ j. take (same j) (e j))

pub behind_is : (whole : List Origin) (os : List actions.Origin) (n m : ℕ) → map origin_of whole ≡ os → n ≡ m → map origin_of (drop n whole) ≡ drop m os
behind_is whole os n m e same = sym (drop-map origin_of n whole) ∙ (λ j. drop (same j) (e j))

-- what stands before a part, what is there in its place, and what stands behind it
pub replaced : (old first second new : List Origin) (xs ys zs : List actions.Origin) → Gains old first xs → Gains first second ys → Gains second new zs → Gains old new (xs ++ ys ++ zs)
replaced old first second new xs ys zs h k l = gains_more old second new (xs ++ ys) zs (gains_more old first second xs ys h k) l

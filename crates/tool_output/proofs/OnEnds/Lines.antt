-- Lines whose text stands before a line feed.
use Rattle.std.proofs.Common.{◌≡◌, ℕ, List, [], ◌∷◌, ◌++◌, Option, sym, ap, ◌∙◌, append_assoc}
use Rattle.ir_base.specs.Outside.{Wrote}

-- what stands behind a piece stands behind all
pub behind : (piece rest end whole : List ℕ) → rest ++ end ≡ whole → (piece ++ rest) ++ end ≡ piece ++ whole
behind piece rest end whole e = append_assoc piece rest end ∙ ap (λ (t : List ℕ). piece ++ t) e

-- a line of the tool's name, a colon and a space, a text and a line feed
pub line_told : (before now : Option (List ℕ)) (faults_before faults_now : ℕ) (name line text whole : List ℕ) → name ≡ line → text ++ 10 ∷ [] ≡ whole → Wrote before now faults_before faults_now (name ++ (58 ∷ 32 ∷ whole)) → Wrote before now faults_before faults_now (line ++ (58 ∷ 32 ∷ (text ++ 10 ∷ [])))
line_told before now faults_before faults_now name line text whole e f wrote = rw (sym e, f) wrote

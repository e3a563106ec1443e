use Rattle.std.proofs.Common.{◌≡◌, ℕ, List, [], ◌∷◌, ◌++◌, length, ap, ◌∙◌, arith}
use Rattle.std.proofs.lemmas.List.{length_push}
use Rattle.instruction_verify.specs.Uses.Edges.{source_of}
use Rattle.instruction_verify.proofs.OnUses.Scratched.{none_more}
use Rattle.instruction_verify.proofs.uses.sources.no_sources.Goals as goal

pub lists-preserved : goal.lists-preserved
lists-preserved c =
    let s = c.lists.sources.items in
    let more : c.push.new.self.items ≡ s ++ [] ∷ [] = c.in_ok-push.ensures.items ∙ ap (λ (x : List ℕ). s ++ x ∷ []) c.none.ensures in
    let long = length_push s [] in
    (omega (arith, ap length more, long, c.lists.invariant.0), λ b. ap (λ (xs : List (List ℕ)). source_of xs b) more ∙ none_more s c.lists.invariant.1 b)

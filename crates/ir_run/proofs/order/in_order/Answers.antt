use Rattle.std.proofs.Common.{ap, ◌∙◌, rules}
use Rattle.std.proofs.lemmas.List.Sorted.{IsNonDecreasingBy-from_sort_by_key, answers_always}
use Rattle.run_rules.specs.Plan.{in_order}
use Rattle.ir_run.proofs.Sorted.{sorted_so}
use Rattle.ir_run.proofs.order.in_order.Goals as goal

pub returns : goal.returns
returns c =
    sorted_so _ _ (IsNonDecreasingBy-from_sort_by_key (λ p. p.priority) _ c.in_ok-sort_by_key.ensures.sorted (λ a r q k. search rules))
    (c.sort_by_key.ensures.stable (λ p. p.priority) (answers_always _ _ _ (λ f a r g h. search rules)))
    ∙ ap in_order c.in_ok-found.ensures

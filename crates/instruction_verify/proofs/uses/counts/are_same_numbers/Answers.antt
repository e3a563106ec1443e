use Rattle.std.proofs.Common.{ℕ, ◌&&◌, eqb, sym, ◌∙◌}
use Rattle.std.specs.List.{list_all}
use Rattle.std.proofs.lemmas.List.Folds.{list_all-append}
use Rattle.instruction_verify.specs.Uses.Edges.{count_in}
use Rattle.instruction_verify.proofs.uses.counts.are_same_numbers.Goals as goal

pub returns-clause-same : goal.returns-clause-same
returns-clause-same c =
    let left = c.args.left.now in
    let right = c.args.right.now in
    let here = c.count.ensures.counted in
    let there = c.count-2.ensures.counted in
    (λ j. c.agree-lefts.ensures j && c.agree-rights.ensures j)
    ∙ (λ j. list_all (λ (n : ℕ). eqb (here n j) (there n j)) left && list_all (λ (n : ℕ). eqb (here n j) (there n j)) right)
    ∙ sym (list_all-append (λ (n : ℕ). eqb (count_in left n) (count_in right n)) left right)

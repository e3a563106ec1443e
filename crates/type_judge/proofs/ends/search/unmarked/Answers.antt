use Rattle.std.proofs.Common.{ap, sym, subst, ◌∙◌, List, ℕ, Bool, get_or, false}
use Rattle.type_judge.proofs.OnOrder.Placed.{none_marked}
use Rattle.type_judge.specs.Ends.Reach.{AreMarks}
use Rattle.type_judge.proofs.OnEnds.Searching.{nothing_marked}
use Rattle.type_judge.proofs.ends.search.unmarked.Goals as goal

pub returns-clause-marks : goal.returns-clause-marks
returns-clause-marks c =
    let marks = c.in_ok-vec.field-0.items in
    let are = c.in_ok-vec.ensures.items_if_clones_equal (λ y e. e) in
    subst (λ (queue : List ℕ). AreMarks marks queue) (sym c.new.ensures.items)
    (nothing_marked marks (λ k. ap (λ (s : List Bool). get_or s k false) are ∙ none_marked c.args.count k))

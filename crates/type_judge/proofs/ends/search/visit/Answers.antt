use Rattle.std.proofs.Common.{arith, ◌∙◌, get_or, refl}
use Rattle.type_judge.proofs.OnOrder.Placed.{number_at}
use Rattle.type_judge.proofs.OnEnds.Searching.{grown_next, grown_all}
use Rattle.type_judge.proofs.ends.search.visit.Goals as goal

pub numbers-preserved : goal.numbers-preserved
numbers-preserved c = record {
  count = c.in_ok-mark.ensures.count ∙ c.numbers.invariant.count;
  marks = c.in_ok-mark.ensures.marks;
  grown =
      grown_next c.args.numbers.now c.numbers.number-index _ _ _ (get_or c.args.numbers.now c.numbers.number-index 0) refl
      (number_at c.args.numbers.now c.numbers.number-index (omega arith)) c.numbers.invariant.grown c.in_ok-mark.ensures.grown;
}

pub returns-clause-grown : goal.returns-clause-grown
returns-clause-grown c = grown_all c.args.numbers.now c.numbers.number-index _ _ (omega arith) c.numbers.invariant.grown

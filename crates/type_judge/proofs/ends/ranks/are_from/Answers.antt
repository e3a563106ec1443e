use Rattle.std.proofs.Common.{arith, refl, below_more}
use Rattle.type_judge.proofs.OnEnds.Rising.{from_all}
use Rattle.type_judge.proofs.ends.ranks.are_from.Goals as goal

pub numbers-preserved : goal.numbers-preserved
numbers-preserved c = below_more _ _ c.numbers.invariant (c.if-not-is_from.ensures refl)

pub returns : goal.returns
returns c told = from_all c.args.ranks.now c.args.low c.args.numbers.now (λ k h. c.numbers.invariant k (omega (arith, h)))

use Rattle.std.proofs.Common.{ap, sym, ◌∙◌, subst}
use Rattle.run_rules.specs.Displace.{inner_term}
use Rattle.run_initial.specs.declared.constants.distance.PathPlace.{PathPlace}
use Rattle.run_initial.specs.Constants.Places.{IsPlace, index_at, shape_at, term_reach}
use Rattle.run_initial.proofs.constants.distance.reach_in.Goals as goal

pub reach_over-requires-clause-place : goal.reach_over-requires-clause-place
reach_over-requires-clause-place c = subst (IsPlace c.args.types.now) c.in-Whole.is c.requires.place

pub returns-in-Whole-clause-value : goal.returns-in-Whole-clause-value
returns-in-Whole-clause-value c = c.reach_over.ensures.value ∙ ap (λ (p : PathPlace). term_reach (inner_term (shape_at c.args.types.now p) (index_at c.args.index c.args.width))) (sym c.in-Whole.is)

pub elements-requires : goal.elements-requires
elements-requires c = let placed = subst (IsPlace c.args.types.now) c.in-Inside.is c.requires.place in placed.0

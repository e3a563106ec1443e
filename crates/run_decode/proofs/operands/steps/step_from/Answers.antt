use Rattle.std.proofs.Common.{ap, sym, ◌∙◌, subst}
use Rattle.run_rules.specs.Displace.{inner_term}
use Rattle.run_decode.specs.declared.operands.steps.StepPlace.{StepPlace}
use Rattle.run_decode.specs.Operands.Steps.{IsPlace, index_at, shape_at}
use Rattle.run_decode.proofs.operands.steps.step_from.Goals as goal

pub step_over-requires : goal.step_over-requires
step_over-requires c = let placed = subst (IsPlace c.args.types.now) c.in-Whole.is c.requires in record { known = placed.0; laid = placed.1 }

pub returns-in-Whole-clause-term : goal.returns-in-Whole-clause-term
returns-in-Whole-clause-term c = c.step_over.ensures.term ∙ ap (λ (p : StepPlace). inner_term (shape_at c.args.types.now p) (index_at c.args.index c.args.width)) (sym c.in-Whole.is)

pub step_into-requires : goal.step_into-requires
step_into-requires c = let placed = subst (IsPlace c.args.types.now) c.in-Inside.is c.requires in record { known = placed.0; laid = placed.1 }

pub returns-in-Inside-clause-term : goal.returns-in-Inside-clause-term
returns-in-Inside-clause-term c = c.step_into.ensures.term ∙ ap (λ (p : StepPlace). inner_term (shape_at c.args.types.now p) (index_at c.args.index c.args.width)) (sym c.in-Inside.is)

pub returns-in-Nowhere-clause-term : goal.returns-in-Nowhere-clause-term
returns-in-Nowhere-clause-term c = c.known_step.ensures.term ∙ ap (λ (p : StepPlace). inner_term (shape_at c.args.types.now p) (index_at c.args.index c.args.width)) (sym c.in-Nowhere.is)

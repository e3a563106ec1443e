use Rattle.std.proofs.Common.{[], ◌∷◌, ap, sym, ◌∙◌}
use Rattle.instruction_verify.proofs.OnLast.GivenTold.{call_given}
use Rattle.instruction_verify.proofs.last.results.call_type.Goals as goal

pub returns-in-Some-clause-ty : goal.returns-in-Some-clause-ty
returns-in-Some-clause-ty c = ap (λ u. u ∷ []) c.returned.ensures.ty ∙ ap (call_given c.args.types.now c.args.call.now) (sym c.in-Some.is)

pub returns-in-None-clause-ty : goal.returns-in-None-clause-ty
returns-in-None-clause-ty c = ap (call_given c.args.types.now c.args.call.now) (sym c.in-None.is)

use Rattle.std.proofs.Common.{sym, ◌∙◌}
use Rattle.name_judge.proofs.OnLocals.ShortNumbers.{short_fits}
use Rattle.name_judge.proofs.locals.literals.is_short.Goals as goal

pub returns-in-Some : goal.returns-in-Some
returns-in-Some c = λ e. short_fits c.args.bits c.args.negative c.args.magnitude.now c.in-Some.number (sym c.in-Some.is ∙ c.short_of.ensures) (sym c.is_within.ensures ∙ e)

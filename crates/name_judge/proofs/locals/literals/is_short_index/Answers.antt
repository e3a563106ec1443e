use Rattle.std.proofs.Common.{sym, ◌∙◌}
use Rattle.name_judge.proofs.OnLocals.ShortNumbers.{short_is_index}
use Rattle.name_judge.proofs.OnLocals.Steps.{asked}
use Rattle.name_judge.proofs.locals.literals.is_short_index.Goals as goal

pub returns-in-Some : goal.returns-in-Some
returns-in-Some c e = asked _ _ (short_is_index c.args.written.now c.in-Some.number (sym c.in-Some.is ∙ c.short_of.ensures) e)

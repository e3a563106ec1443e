use Rattle.std.proofs.Common.{sym, ap, ◌∙◌}
use Rattle.run_decode.specs.Operands.Open.{is_counted}
use Rattle.run_decode.proofs.operands.counted.is_counted.Goals as goal

pub returns-in-Some : goal.returns-in-Some
returns-in-Some c = ap is_counted (sym c.in-Some.is ∙ c.count_at.ensures.value)

pub returns-in-None : goal.returns-in-None
returns-in-None c = ap is_counted (sym c.in-None.is ∙ c.count_at.ensures.value)

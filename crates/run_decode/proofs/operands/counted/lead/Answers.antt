use Rattle.std.proofs.Common.{sym, ◌∙◌}
use Rattle.run_decode.proofs.OnOperands.Summed.{led_none, led_some}
use Rattle.run_decode.proofs.operands.counted.lead.Goals as goal

pub returns-in-Some-clause-value : goal.returns-in-Some-clause-value
returns-in-Some-clause-value c = c.product.ensures.value ∙ sym (led_some c.args.step c.in-Some.count (sym c.count_at.ensures.value ∙ c.in-Some.is))

pub returns-in-None-clause-value : goal.returns-in-None-clause-value
returns-in-None-clause-value c = sym (led_none c.args.step (sym c.count_at.ensures.value ∙ c.in-None.is))

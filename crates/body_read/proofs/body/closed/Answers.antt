use Rattle.std.proofs.Common.{refl, sym, ◌∙◌}
use Rattle.body_read.proofs.body.closed.Goals as goal

pub returns-then-may_end : goal.returns-then-may_end
returns-then-may_end c = record { may = sym c.may_end.ensures ∙ c.if-may_end.true; blocks = c.finish.ensures.blocks; results = c.finish.ensures.results; few = c.finish.ensures.few }

pub returns-else-may_end : goal.returns-else-may_end
returns-else-may_end c = record { may_not = sym c.may_end.ensures ∙ c.if-may_end.false; told = refl }

use Rattle.std.proofs.Common.{refl}
use Rattle.std.proofs.lemmas.Bool.{eq-eqb, ne_eqb}
use Rattle.record_read.proofs.opening.producer.is_naming.Goals as goal

pub returns-then-code-ne-TEXT-clause-is : goal.returns-then-code-ne-TEXT-clause-is
returns-then-code-ne-TEXT-clause-is c = λ operands walk. rw (ne_eqb c.args.code 1 c.if-code-ne-TEXT.true) refl

pub returns-clause-is : goal.returns-clause-is
returns-clause-is c = λ operands walk. rw (eq-eqb c.args.code 1 c.if-code-ne-TEXT.false) (c.names_us.ensures.is operands walk)

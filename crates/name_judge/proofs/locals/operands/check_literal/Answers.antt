use Rattle.type_judge.specs.Gathered.{known_of}
use Rattle.name_judge.proofs.locals.operands.check_literal.Goals as goal

pub returns-then-is_literal : goal.returns-then-is_literal
returns-then-is_literal c = c.is_literal.ensures (known_of c.args.known.now) c.if-is_literal.true

use Rattle.ir_lexer.proofs.AheadSteps.{ahead_skipped, text_behind}
use Rattle.ir_lexer.proofs.lexer.Lexer.skip_gap.Goals as goal

pub returns-clause-skipped : goal.returns-clause-skipped
returns-clause-skipped c = c.skip.ensures.skipped

pub returns-clause-ahead : goal.returns-clause-ahead
returns-clause-ahead c = rw c.skip.ensures.skipped (ahead_skipped c.args.self.now)

pub returns-clause-text : goal.returns-clause-text
returns-clause-text c = rw c.skip.ensures.skipped (text_behind c.args.self.now)

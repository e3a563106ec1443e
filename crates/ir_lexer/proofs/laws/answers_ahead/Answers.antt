use Rattle.ir_lexer.proofs.AheadSteps.{ahead_step, ahead_is}
use Rattle.ir_lexer.proofs.laws.answers_ahead.Goals as goal

pub returns-clause-step : goal.returns-clause-step
returns-clause-step c = ahead_step

pub returns-clause-tokens : goal.returns-clause-tokens
returns-clause-tokens c = ahead_is

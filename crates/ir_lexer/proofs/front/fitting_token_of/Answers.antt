use Rattle.ir_lexer.proofs.Lexes.{front_fits, front_spelled}
use Rattle.ir_lexer.proofs.front.fitting_token_of.Goals as goal

pub returns-clause-in_text : goal.returns-clause-in_text
returns-clause-in_text c = front_fits c.args.text.now c.token_of.result c.token_of.ensures.token

pub returns-clause-spelled : goal.returns-clause-spelled
returns-clause-spelled c = front_spelled c.args.text.now c.token_of.result c.token_of.ensures.token

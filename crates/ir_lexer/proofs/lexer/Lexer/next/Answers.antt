use Rattle.ir_lexer.proofs.Answering.{answers_are_right, answers_stay}
use Rattle.ir_lexer.proofs.Placing.{placed, text_after}
use Rattle.ir_lexer.proofs.lexer.Lexer.next.Goals as goal

pub returns-clause-says : goal.returns-clause-says
returns-clause-says c = rw (c.read.ensures.answer, c.read.ensures.after) (answers_are_right c.args.self.now)

pub returns-clause-placed : goal.returns-clause-placed
returns-clause-placed c = rw (c.read.ensures.answer, c.read.ensures.after) (placed c.args.self.now c.read.ensures.within)

pub returns-clause-text : goal.returns-clause-text
returns-clause-text c = rw c.read.ensures.after (text_after c.args.self.now)

pub returns-clause-stays : goal.returns-clause-stays
returns-clause-stays c = rw (c.read.ensures.answer, c.read.ensures.after) (answers_stay c.args.self.now)

use Rattle.ir_lexer.proofs.Lexed.{pieces_are as the_law}
use Rattle.ir_lexer.proofs.laws.pieces_are_tokens.Goals as goal

pub returns : goal.returns
returns c = the_law

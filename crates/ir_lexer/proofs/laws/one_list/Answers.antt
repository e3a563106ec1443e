use Rattle.ir_lexer.proofs.TokenLists.{one_list as the_law}
use Rattle.ir_lexer.proofs.laws.one_list.Goals as goal

pub returns : goal.returns
returns c = the_law

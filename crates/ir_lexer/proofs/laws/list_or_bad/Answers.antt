use Rattle.ir_lexer.proofs.TokenLists.{list_or_bad as the_law, list_or_bad_not_both}
use Rattle.ir_lexer.proofs.laws.list_or_bad.Goals as goal

pub returns-clause-either : goal.returns-clause-either
returns-clause-either c = the_law

pub returns-clause-not_both : goal.returns-clause-not_both
returns-clause-not_both c = list_or_bad_not_both

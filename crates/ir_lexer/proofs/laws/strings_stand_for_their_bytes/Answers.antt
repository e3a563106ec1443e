use Rattle.ir_lexer.proofs.Strings.{strings_stand_for}
use Rattle.ir_lexer.proofs.laws.strings_stand_for_their_bytes.Goals as goal

pub returns : goal.returns
returns c = strings_stand_for

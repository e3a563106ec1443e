use Rattle.std.proofs.Common.{refl}
use Rattle.ir_terminals.specs.Words.{words_by_role}
use Rattle.ir_terminals.proofs.words.rows.Goals as goal

pub returns : goal.returns
unfolding words_by_role
returns c = refl

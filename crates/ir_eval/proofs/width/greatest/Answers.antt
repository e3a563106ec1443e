use Rattle.ir_eval.proofs.Words.{greatest_is}
use Rattle.ir_eval.proofs.width.greatest.Goals as goal

pub returns : goal.returns
returns c = greatest_is 128 c.args.width c.requires.most

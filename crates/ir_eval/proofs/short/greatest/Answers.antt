use Rattle.ir_eval.proofs.Words.{greatest_is}
use Rattle.ir_eval.proofs.short.greatest.Goals as goal

pub returns : goal.returns
returns c = greatest_is 64 c.args.width c.requires.short

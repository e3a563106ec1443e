use Rattle.ir_eval.proofs.Words.{has_sign_is}
use Rattle.ir_eval.proofs.width.has_sign.Goals as goal

pub returns : goal.returns
returns c = has_sign_is c.args.width c.greatest.result c.args.number c.requires c.greatest.ensures

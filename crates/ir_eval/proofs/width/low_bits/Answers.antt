use Rattle.std.proofs.Common.{ap, ◌∙◌, bit_and}
use Rattle.std.proofs.lemmas.Nat.{and_mask}
use Rattle.ir_eval.proofs.width.low_bits.Goals as goal

pub returns : goal.returns
returns c = ap (bit_and c.args.word) c.greatest.ensures ∙ and_mask c.args.word c.args.width

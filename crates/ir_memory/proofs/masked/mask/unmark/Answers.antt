use Rattle.std.proofs.Common.{◌/◌, ◌∙◌, ap, length, arith}
use Rattle.std.proofs.lemmas.List.{get_or_default, length-set}
use Rattle.ir_memory.specs.Masked.Masked.{is_marked}
use Rattle.ir_memory.proofs.OnMasked.Marks.{unmarked}
use Rattle.ir_memory.proofs.masked.mask.unmark.Goals as goal

pub returns-clause-len : goal.returns-clause-len
returns-clause-len c = ap length c.put.ensures ∙ length-set c.args.words.now (c.args.at / 64) _

pub returns-clause-marks : goal.returns-clause-marks
returns-clause-marks c = λ k.
    ap (λ ws. is_marked ws k) c.put.ensures
    ∙ unmarked c.args.words.now c.args.at c.get-word.result k c.requires (c.get-word.ensures ∙ get_or_default c.args.words.now (c.args.at / 64) 0 c.get-word.result (omega (arith, c.requires)))

use Rattle.std.proofs.Common.{◌∙◌, arith}
use Rattle.ir_printer.proofs.OnPhrases.Numerals.{standard_digits}
use Rattle.ir_printer.proofs.OnPhrases.Printing.{tells_same}
use Rattle.ir_printer.proofs.phrases.numbers.put_digits.Goals as goal

pub returns : goal.returns
returns g c = tells_same (c.as_bytes.ensures.value ∙ c.format.ensures.text ∙ standard_digits c.args.value (omega (arith, c.ranges.value.fits))) c.put.ensures

use Rattle.ir_memory.proofs.OnMasked.Numbers.{digit_shift}
use Rattle.ir_memory.proofs.masked.bytes.digit.Goals as goal

pub returns : goal.returns
returns c = digit_shift c.args.number c.args.place

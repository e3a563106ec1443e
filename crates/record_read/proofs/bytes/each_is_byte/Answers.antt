use Rattle.std.proofs.Common.{arith}
use Rattle.record_read.proofs.AllBytes.{all_bytes}
use Rattle.record_read.proofs.bytes.each_is_byte.Goals as goal

pub returns : goal.returns
returns c = all_bytes c.args.bytes.now (λ i lt. omega (arith, c.type_inv.bytes i))

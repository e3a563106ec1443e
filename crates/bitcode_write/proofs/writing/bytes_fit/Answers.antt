use Rattle.std.proofs.Common.{arith}
use Rattle.bitcode_write.proofs.writing.bytes_fit.Goals as goal

pub returns : goal.returns
returns c = λ i. omega (arith, c.type_inv.bytes i)

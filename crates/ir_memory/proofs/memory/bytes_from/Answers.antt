use Rattle.std.proofs.Common.{arith}
use Rattle.ir_memory.proofs.memory.bytes_from.Goals as goal

pub returns-clause-fits : goal.returns-clause-fits
returns-clause-fits c = λ k. omega (arith, c.type_inv.bytes k)

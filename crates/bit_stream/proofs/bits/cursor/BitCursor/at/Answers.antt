use Rattle.std.proofs.Common.{arith}
use Rattle.bit_stream.proofs.OnBits.Places.{left_is}
use Rattle.bit_stream.proofs.bits.cursor.BitCursor.at.Goals as goal

pub returns-clause-small : goal.returns-clause-small
returns-clause-small c = rw (← c.self.view_is) (omega (arith, left_is c.self.inside.bytes.now c.self.inside.at))

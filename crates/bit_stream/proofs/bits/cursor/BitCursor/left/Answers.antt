use Rattle.std.proofs.Common.{arith}
use Rattle.bit_stream.proofs.OnBits.Places.{left_is}
use Rattle.bit_stream.proofs.bits.cursor.BitCursor.left.Goals as goal

pub returns : goal.returns
returns c = rw (← c.self.view_is) (omega (arith, left_is c.self.inside.bytes.now c.self.inside.at))

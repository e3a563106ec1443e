use Rattle.std.proofs.Common.{sym, arith}
use Rattle.bit_stream.proofs.OnBits.Places.{aligned}
use Rattle.bit_stream.proofs.bits.cursor.BitCursor.blob.Goals as goal

pub bytes-requires : goal.bytes-requires
bytes-requires c = omega (arith, aligned _ _ (sym c.in_ok-align.ensures))

use Rattle.std.proofs.Common.{arith}
use Rattle.bit_stream.proofs.OnBits.RoundTrip.{vbr_back}
use Rattle.bit_stream.proofs.bits.law.chunks_are_read_back.Goals as goal

pub returns : goal.returns
returns c = λ w n rest low fits. vbr_back 64 w 0 n rest low (omega arith) (omega arith) (omega arith)

use Rattle.bit_stream.proofs.OnBits.RoundTrip.{vbr_found}
use Rattle.bit_stream.proofs.bits.law.what_is_read_is_in_chunks.Goals as goal

pub returns : goal.returns
returns c = vbr_found

use Rattle.bit_stream.proofs.OnBits.RoundTrip.{fixed_back}
use Rattle.bit_stream.proofs.bits.law.field_is_read_back.Goals as goal

pub returns : goal.returns
returns c = fixed_back

use Rattle.bit_stream.proofs.ReadBack.{abbreviated_back}
use Rattle.bit_stream.proofs.law.abbreviated_is_read_back.Goals as goal

pub returns : goal.returns
returns c = abbreviated_back

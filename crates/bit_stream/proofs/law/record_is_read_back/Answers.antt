use Rattle.bit_stream.proofs.ReadBack.{record_back}
use Rattle.bit_stream.proofs.law.record_is_read_back.Goals as goal

pub returns : goal.returns
returns c = record_back

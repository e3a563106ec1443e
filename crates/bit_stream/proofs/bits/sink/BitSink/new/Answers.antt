use Rattle.std.proofs.Common.{refl}
use Rattle.bit_stream.specs.Bits.Bits.{stream_bits, bits_of}
use Rattle.bit_stream.proofs.bits.sink.BitSink.new.Goals as goal

pub returns : goal.returns
unfolding stream_bits bits_of
returns c = rw c.in_ok-with_capacity.ensures.items refl

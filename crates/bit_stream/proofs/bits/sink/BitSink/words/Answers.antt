use Rattle.std.proofs.Common.{arith, length-append}
use Rattle.bit_stream.specs.Bits.Bits.{stream_bits, bits_of}
use Rattle.bit_stream.proofs.OnBits.BitsLaws.{length-stream_bits, length-bits_of}
use Rattle.bit_stream.proofs.bits.sink.BitSink.words.Goals as goal

pub returns : goal.returns
returns c =
    let s = c.self.inside in
    rw (← c.self.view_is) (omega (arith, length-append (stream_bits s.out.items) (bits_of s.count s.pending), length-stream_bits s.out.items, length-bits_of s.count s.pending))

use Rattle.std.proofs.Common.{arith}
use Rattle.bit_stream.proofs.OnBits.Appends.{byte_ended}
use Rattle.bit_stream.proofs.bits.sink.BitSink.finish.Goals as goal

pub returns : goal.returns
returns c =
    let s = c.self.inside in
    rw (c.from_vec.ensures, c.in-Ok.ensures.items, c.to_le_bytes-bytes.ensures, ← c.self.view_is) (byte_ended s.out.items s.count s.pending _ c.self.invariant.few c.self.invariant.small (omega (arith, c.div_ceil-count.ensures)))

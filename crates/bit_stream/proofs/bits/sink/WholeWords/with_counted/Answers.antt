use Rattle.std.proofs.Common.{length, ap, arith, length-append}
use Rattle.bit_stream.proofs.OnBits.BitsLaws.{length-bits_of}
use Rattle.bit_stream.proofs.bits.sink.WholeWords.with_counted.Goals as goal

pub append-requires-clause-whole : goal.append-requires-clause-whole
append-requires-clause-whole c =
    let size = simp (length-append, length-bits_of) at (ap length c.in_ok-fixed.ensures.ok) in
    omega (arith, size, c.self.invariant)

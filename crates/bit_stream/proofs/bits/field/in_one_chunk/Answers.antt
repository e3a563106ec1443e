use Rattle.std.proofs.Common.{◌≤◌, length, drop, arith, length-drop}
use Rattle.bit_stream.specs.Bits.Bits.{stream_bits}
use Rattle.bit_stream.proofs.OnBits.BitsLaws.{length-stream_bits}
use Rattle.bit_stream.proofs.OnBits.Chunks.{one_chunk}
use Rattle.bit_stream.proofs.bits.field.in_one_chunk.Goals as goal

pub returns-then-number-data_bits-eq0 : goal.returns-then-number-data_bits-eq0
returns-then-number-data_bits-eq0 c =
    let all = stream_bits c.args.bytes.now in
    let bits = drop c.args.start all in
    let whole : c.args.width ≤ length bits = omega (arith, length-drop c.args.start all, length-stream_bits c.args.bytes.now) in
    one_chunk c.args.width _ bits c.requires.width_low c.requires.width_high whole c.field_at-number.ensures c.if-number-data_bits-eq0.true

use Rattle.std.proofs.Common.{arith}
use Rattle.bit_stream.proofs.OnBits.BitsLaws.{length-stream_bits}
use Rattle.bit_stream.proofs.OnBits.Words.{long_field}
use Rattle.bit_stream.proofs.bits.field.long_field_at.Goals as goal

pub returns : goal.returns
returns c = long_field _ c.args.at c.args.width _ _ (omega arith) (omega arith) (omega (arith, length-stream_bits c.args.bytes.now)) c.short_field_at-low.ensures c.short_field_at-high.ensures

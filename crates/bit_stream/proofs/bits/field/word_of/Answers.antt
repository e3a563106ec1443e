use Rattle.std.proofs.Common.{◌∙◌, arith}
use Rattle.bit_stream.proofs.OnBits.Words.{word_eight}
use Rattle.bit_stream.proofs.bits.field.word_of.Goals as goal

pub returns-then-bytes-eq8 : goal.returns-then-bytes-eq8
returns-then-bytes-eq8 c = c.from_le_bytes.ensures ∙ word_eight c.args.bytes.now c.if-bytes-eq8.true (λ i. omega (arith, c.type_inv.bytes i))

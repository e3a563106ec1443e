use Rattle.std.proofs.Common.{min, ◌+◌, ◌-◌, ◌≡◌, length, ap, ◌∙◌, arith}
use Rattle.bit_stream.proofs.OnBits.BitsLaws.{first_word}
use Rattle.bit_stream.specs.Bits.Bits.{value}
use Rattle.bit_stream.proofs.bits.field.word_at.Goals as goal

pub returns : goal.returns
returns c =
    let count : c.args.from + c.min-count.result - c.args.from ≡ min (length c.args.bytes.now - c.args.from) 8 = omega arith in
    rw count at c.word_of.ensures ∙ ap value (first_word c.args.from c.args.bytes.now c.requires)

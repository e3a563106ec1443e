use Rattle.bit_stream.proofs.OnBits.Words.{short_field}
use Rattle.bit_stream.proofs.bits.field.short_field_at.Goals as goal

pub returns : goal.returns
returns c = short_field _ c.args.at _ c.args.width c.requires.width_in c.word_at-word.ensures

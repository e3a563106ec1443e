use Rattle.ir_tables.proofs.WidthTexts.{read_two, read_three}
use Rattle.ir_tables.proofs.intrinsic_name.width_of.Goals as goal

pub returns-in-len2 : goal.returns-in-len2
returns-in-len2 c = read_two _ _ _ c.is_padded.ensures c.if-is_padded.false c.in-len2.len_at_least c.in-len2.len_below c.width_of_digits-in-len2.ensures

pub returns-in-len3 : goal.returns-in-len3
returns-in-len3 c = read_three _ _ _ c.is_padded.ensures c.if-is_padded.false c.in-len3.len_at_least c.in-len3.len_below c.width_of_digits-in-len3.ensures

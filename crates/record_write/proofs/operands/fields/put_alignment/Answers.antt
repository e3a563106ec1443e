use Rattle.std.proofs.Common.{sym}
use Rattle.record_write.proofs.OnOperands.Chain.{reworded}
use Rattle.record_write.proofs.operands.fields.put_alignment.Goals as goal

pub returns : goal.returns
returns c = λ has. reworded _ _ _ _ _ c.put_number.ensures (sym (c.alignment_code.ensures has))

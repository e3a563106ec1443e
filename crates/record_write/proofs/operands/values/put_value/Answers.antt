use Rattle.record_write.proofs.OnOperands.Chain.{reworded}
use Rattle.record_write.proofs.OnOperands.Inside.{local_spelled, known_spelled}
use Rattle.record_write.proofs.operands.values.put_value.Goals as goal

pub returns-in-Local : goal.returns-in-Local
returns-in-Local c = λ f t wide body has. reworded _ _ _ _ _ c.put_local_value.ensures (local_spelled c.args.numbering.now f t c.args.part c.in-Local.id c.in-Local.is body has)

pub returns-in-Known : goal.returns-in-Known
returns-in-Known c = λ f t wide body has. reworded _ _ _ _ _ (c.put_constant.ensures t wide (rw c.in-Known.is at has)) (known_spelled c.args.numbering.now f t c.args.part c.in-Known.id c.in-Known.is)

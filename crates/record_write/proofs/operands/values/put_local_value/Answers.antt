use Rattle.std.proofs.Common.{◌∷◌, []}
use Rattle.record_write.proofs.OnOperands.Chain.{last2}
use Rattle.record_write.proofs.operands.values.put_local_value.Goals as goal

pub returns : goal.returns
returns c = last2 _ _ (0 ∷ []) (c.args.id ∷ []) _ _ c.in_ok-put_number.ensures c.put_local.ensures

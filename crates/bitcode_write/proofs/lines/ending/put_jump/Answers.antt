use Rattle.std.proofs.Common.{◌∷◌, []}
use Rattle.record_write.proofs.OnOperands.Chain.{last2}
use Rattle.bitcode_write.proofs.lines.ending.put_jump.Goals as goal

pub returns : goal.returns
returns c = last2 _ _ (0 ∷ []) (c.args.to ∷ []) _ _ c.in_ok-put_number.ensures c.put_block.ensures

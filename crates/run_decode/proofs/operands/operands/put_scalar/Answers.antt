use Rattle.std.proofs.Common.{IfOk, subst}
use Rattle.run_rules.specs.Action as actions
use Rattle.run_decode.specs.Flat.Grown.{IsLeaf}
use Rattle.run_decode.proofs.operands.operands.put_scalar.Goals as goal

pub returns-clause-leaf : goal.returns-clause-leaf
returns-clause-leaf c = subst (λ (o : actions.Origin). IfOk c.put_leaf.result (λ at. IsLeaf c.put_leaf.new.pools at o)) c.operand_leaf.ensures c.put_leaf.ensures.leaf
